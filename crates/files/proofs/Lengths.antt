-- How long a file is. Assumes nothing.
use Rattle.std.proofs.Common.{◌≡◌, ◌+◌, length, arith}
use Rattle.std.specs.List.{flat_map}
use Rattle.records.specs.Layouts.{application_bytes, request_bytes, event_bytes}
use Rattle.records.proofs.RecordTrips.{application_trips, request_trips, event_trips}
use Rattle.files.specs.Contents.{end_of}
use Rattle.files.specs.Tables.{Tables, counts_of}
use Rattle.files.proofs.Bodies.{length_laid}

pub length_bodies : (t : Tables) → 40 + length (flat_map application_bytes t.applications) + length (flat_map request_bytes t.requests) + length (flat_map event_bytes t.events) ≡ end_of (counts_of t)
length_bodies t = omega (arith, length_laid application_trips t.applications, length_laid request_trips t.requests, length_laid event_trips t.events)
