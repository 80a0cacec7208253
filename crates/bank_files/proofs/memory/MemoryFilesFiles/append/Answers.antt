use Rattle.std.proofs.Common.{ap, ◌∙◌, inl}
use Rattle.bank_files.specs.Fault.{raised}
use Rattle.bank_files.specs.Memory.{starved_of}
use Rattle.bank_files.proofs.Counting.{refused_is, done_is, starves_once, refused_counts, done_counts, starved_counts}
use Rattle.bank_files.proofs.memory.MemoryFilesFiles.append.Goals as goal

pub returns-then-is_refused-clause-failed : goal.returns-then-is_refused-clause-failed
returns-then-is_refused-clause-failed c =
    refused_is c.is_refused.result c.args.self.now c.fault.new.self c.is_refused.ensures.refused c.if-is_refused.true (ap starved_of c.fault.ensures.counted ∙ ap starved_of c.is_refused.ensures.counted)

pub returns-then-is_refused-clause-starved : goal.returns-then-is_refused-clause-starved
returns-then-is_refused-clause-starved c = inl (ap starved_of c.fault.ensures.counted ∙ ap starved_of c.is_refused.ensures.counted)

pub returns-then-is_refused-clause-counted : goal.returns-then-is_refused-clause-counted
returns-then-is_refused-clause-counted c =
    refused_counts c.args.self.now c.is_refused.new.self c.fault.new.self c.is_refused.ensures.counted c.fault.ensures.counted c.fault.ensures.no_less

pub returns-in-Ok-clause-failed : goal.returns-in-Ok-clause-failed
returns-in-Ok-clause-failed c =
    done_is c.is_refused.result c.args.self.now c.add.new.self c.is_refused.ensures.refused c.if-is_refused.false (c.add.ensures.counts.starved ∙ ap starved_of c.is_refused.ensures.counted)

pub returns-in-Ok-clause-starved : goal.returns-in-Ok-clause-starved
returns-in-Ok-clause-starved c = inl (c.add.ensures.counts.starved ∙ ap starved_of c.is_refused.ensures.counted)

pub returns-in-Ok-clause-counted : goal.returns-in-Ok-clause-counted
returns-in-Ok-clause-counted c =
    done_counts c.args.self.now c.is_refused.new.self c.add.new.self c.is_refused.ensures.counted c.add.ensures.failing c.add.ensures.counts

pub returns-in-Err-clause-starved : goal.returns-in-Err-clause-starved
returns-in-Err-clause-starved c =
    starves_once c.is_refused.result c.args.self.now c.starve.new.self c.is_refused.ensures.refused c.if-is_refused.false
    (ap starved_of c.starve.ensures.counted ∙ ap raised (c.add.ensures.counts.starved ∙ ap starved_of c.is_refused.ensures.counted))

pub returns-in-Err-clause-counted : goal.returns-in-Err-clause-counted
returns-in-Err-clause-counted c =
    starved_counts c.args.self.now c.is_refused.new.self c.add.new.self c.starve.new.self c.is_refused.ensures.counted c.add.ensures.failing c.add.ensures.counts
    c.starve.ensures.counted c.starve.ensures.no_less
