-- The parts of a file, as the program has them.
use Rattle.std.specs.Prelude.{ℕ, List}
use Rattle.std.specs.Borrow.{Bor}
use Rattle.records.specs.Layouts.{settings_of}
use Rattle.files.specs.Parts.{part_of}
use Rattle.files.specs.Reading.{Parts}
use Rattle.files.specs.declared.parts.Body.{Body}

abbrev pub joined : Bor (List ℕ) → Body → Body → Body → Parts
joined settings applications requests events =
    record {
      settings = settings_of settings.now;
      settings_body = record { offset = 32; bytes = settings.now };
      applications = part_of applications;
      requests = part_of requests;
      events = part_of events;
    }
