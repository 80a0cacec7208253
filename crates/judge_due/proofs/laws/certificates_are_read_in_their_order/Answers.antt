-- The law, from its lemmas.
use Rattle.std.proofs.Common.{refl}
use Rattle.due.specs.Banks.{bank_of, window_of}
use Rattle.sweep_due.specs.declared.offsets.TheConstants.{OFFSETS}
use Rattle.sweep_due.specs.Phases.{is_swept, swept_offsets}
use Rattle.judge_due.specs.JudgeDues.{Reads_bank, Reads_certificate, files_in}
use Rattle.judge_due.proofs.FileLaws.{each_swept, read_among, read_up_to}
use Rattle.judge_due.proofs.JudgeReadLaws.{certificate_file, read_of_bank, refused_reads_none}
use Rattle.judge_due.proofs.laws.certificates_are_read_in_their_order.Goals as goal

pub returns-clause-refused : goal.returns-clause-refused
returns-clause-refused c = refused_reads_none

pub returns-clause-read : goal.returns-clause-read
returns-clause-read c = λ words contents o config records offset asks loaded. (
  λ read. (certificate_file words contents o asks config records loaded offset _ read).1,
  λ read. Reads_certificate o asks config records loaded offset read refl refl,
)

pub returns-clause-only : goal.returns-clause-only
returns-clause-only c = λ words contents o config records offset file asks loaded read.
    let bank = bank_of config records in
    let window = window_of o.asked bank.receivers in
    let (name, at) = certificate_file words contents o asks config records loaded offset file read in
    (name, each_swept window.phase offset (read_among window bank (files_in contents) (swept_offsets window.phase) offset at))

pub returns-clause-last : goal.returns-clause-last
returns-clause-last c = λ words contents o config records offset bad fault file asks loaded first read.
    let bank = bank_of config records in
    let window = window_of o.asked bank.receivers in
    read_up_to window bank (files_in contents) (is_swept window.phase) bad fault offset 0 OFFSETS first
    (certificate_file words contents o asks config records loaded offset file read).1

pub returns-clause-bank : goal.returns-clause-bank
returns-clause-bank c = λ words contents o input file asks none. (read_of_bank words contents o asks input file none, Reads_bank o asks)
