-- What a trace that was read says of its tables, with nothing asked of a caller. Assumes nothing.
use Rattle.std.proofs.Common.{◌≡◌, ◌≤◌, true, length, is_ok, Ok, Err, Result, refl, arith}
use Rattle.records.specs.Layouts.{application_of, request_of, event_record_of}
use Rattle.records.specs.declared.fault.Fault.{Fault}
use Rattle.files.proofs.Rows.{count}
use Rattle.files.specs.Reading.{judge_records, judge_roster}
use Rattle.trace.specs.View.{parts_of, tables_of}
use Rattle.trace.specs.declared.trace.Trace.{Trace}

passed : (v : Result (Unit {0}) Fault) → is_ok v ≡ true → v ≡ Ok tt
passed (Ok u) h = refl
passed (Err e) h = absurd (cc)

pub few_applications : (t : Trace) → length (tables_of t).applications ≤ 15
few_applications t = omega (arith, count application_of 8 t.split.applications.bytes.now, t.split.few_applications)

pub few_requests : (t : Trace) → length (tables_of t).requests ≤ 960
few_requests t = omega (arith, count request_of 16 t.split.requests.bytes.now, t.split.few_requests)

pub few_events : (t : Trace) → length (tables_of t).events ≤ 960
few_events t = omega (arith, count event_record_of 16 t.split.events.bytes.now, t.split.few_events)

pub sound : (t : Trace) → judge_records (parts_of t) ≡ Ok tt
sound t = passed _ t.records_judged

pub fair : (t : Trace) → judge_roster (tables_of t).settings (tables_of t).applications ≡ Ok tt
fair t = passed _ t.roster_judged
