-- The numbers of layers and causes, and what is done with a fault.
use Rattle.std.specs.Prelude.{ℕ, Ok, Err, Result}
use Rattle.records.specs.declared.fault.Layer.{Layer}
use Rattle.records.specs.declared.fault.Layer.TheVariants.{Contents, Records, Roster}
use Rattle.records.specs.declared.fault.Cause.{Cause}
use Rattle.records.specs.declared.fault.Cause.TheVariants.{TooShort, Layout, Byte, NoRequest, Hold, Weight, Limit, Buffer}
use Rattle.records.specs.declared.fault.Fault.{Fault}

abbrev pub layer_number : Layer → ℕ
layer_number Contents = 1
layer_number Records = 2
layer_number Roster = 3

abbrev pub cause_number : Cause → ℕ
cause_number Weight = 2
cause_number Limit = 3
cause_number Hold = 4
cause_number TooShort = 13
cause_number Layout = 14
cause_number Byte = 15
cause_number NoRequest = 16
cause_number Buffer = 18

abbrev pub fault : Layer → Cause → ℕ → Fault
fault layer cause place = record { layer = layer; number = cause; place = place }

-- the first fault is handed on, and what comes after is not looked at
abbrev pub onward : {X Y : Type 0} → Result X Fault → (X → Result Y Fault) → Result Y Fault
onward (Ok x) f = f x
onward (Err e) f = Err e
