mod Accepting
mod Asking
mod Going
mod Sharing
