-- What a replay answers, and what it leaves in the buffer.
use Rattle.std.specs.Prelude.{◌≡◌, ℕ, ◌<◌, ◌≤◌, true, List, length, codes, is_ok, Some, None, Ok, Err, Option, Result}
use Rattle.fields.specs.Buffers.{put}
use Rattle.files.specs.Reading.{read}
use Rattle.files.specs.Tables.{Tables}
use Rattle.histories.specs.Promises.{Kept}
use Rattle.machine.specs.Machine.{Rule}
use Rattle.pools.specs.Lines.{Choice}
use Rattle.records.specs.declared.fault.Fault.{Fault}
use Rattle.replays.specs.Asked.{choice_of, roster}
use Rattle.replays.specs.Listings.{history_of, listed, listing, played}
use Rattle.replays.specs.declared.unlisted.Unlisted.{Unlisted}
use Rattle.replays.specs.declared.unlisted.Unlisted.TheVariants.{Buffer, Memory}

-- a listing was put, from the buffer's beginning on, and the promises hold of its history
pub record Put (choice : Choice) (first : ℕ → ℕ) (next : Rule) (t : Tables) (old : List ℕ) (n : ℕ) (new : List ℕ) : Type 0 where
  pub length_is : n ≡ length (listed choice first next t)
  pub most : n ≤ 62464
  pub after : new ≡ put 0 (listed choice first next t) old
  pub promises : Kept choice (roster t) (played choice first next t)

-- why there is no listing, and the number by which the outside knows it; want of memory has none
abbrev pub number : Unlisted → Option ℕ
number Buffer = Some 18
number Memory = None

-- and as a program prints it
abbrev pub words : Unlisted → List ℕ
words Buffer = codes "refused (18): the buffer is too short"
words Memory = codes "there is no memory for the replay"

-- What a replay answers: how long the listing is, or that the buffer is under 62,464 bytes, whatever the
-- file holds, or that there was no memory for an accepted file. A listing is put from the buffer's
-- beginning on, and all else stays.
pub record Wrote (bytes old : List ℕ) (n : ℕ) (new : List ℕ) : Type 0 where
  pub room : 62464 ≤ length old
  pub length_is : n ≡ length (listing bytes)
  pub most : n ≤ 62464
  pub after : new ≡ put 0 (listing bytes) old

pub record Short (old new : List ℕ) : Type 0 where
  pub room : length old < 62464
  pub same : new ≡ old

pub record Wanting (bytes old new : List ℕ) : Type 0 where
  pub room : 62464 ≤ length old
  pub accepted : is_ok (read bytes) ≡ true
  pub same : new ≡ old

abbrev pub Replayed : List ℕ → List ℕ → Result ℕ Unlisted → List ℕ → Type 0
Replayed bytes old (Ok n) new = Wrote bytes old n new
Replayed bytes old (Err Buffer) new = Short old new
Replayed bytes old (Err Memory) new = Wanting bytes old new

-- the promises hold of the history that a file makes
abbrev pub PromisesBy : Result Tables Fault → Type 0
PromisesBy (Ok t) = Kept (choice_of t.settings.pool) (roster t) (history_of t)
PromisesBy (Err f) = Unit {0}

abbrev pub FilePromises : List ℕ → Type 0
FilePromises bytes = PromisesBy (read bytes)
