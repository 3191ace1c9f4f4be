-- What a trace of the program stands for, and tables that a caller gives.
use Rattle.std.specs.Prelude.{Ok, Err, Result}
use Rattle.records.specs.declared.fault.Fault.{Fault}
use Rattle.files.specs.Reading.{Parts, tables}
use Rattle.files.specs.Tables.{Tables}
use Rattle.files.specs.Writing.{given}
use Rattle.trace.specs.Split.{joined}
use Rattle.trace.specs.declared.tables.Tables as program
use Rattle.trace.specs.declared.trace.Trace.{Trace}
use Rattle.trace.specs.declared.trace.split.Split.{Split}

abbrev pub split_of : Split → Parts
split_of s = joined s.settings s.applications s.requests s.events

abbrev pub parts_of : Trace → Parts
parts_of t = split_of t.split

abbrev pub tables_of : Trace → Tables
tables_of t = tables (parts_of t)

abbrev pub answered : Result Trace Fault → Result Parts Fault
answered (Ok t) = Ok (parts_of t)
answered (Err e) = Err e

abbrev pub given_of : program.Tables → Tables
given_of t = given t.settings t.applications.now t.requests.now t.events.now
