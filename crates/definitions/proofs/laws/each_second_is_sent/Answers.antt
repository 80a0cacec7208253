-- Each second may carry something, and is listed.
use Rattle.definitions.specs.codes.Allowed.{allowed}
use Rattle.definitions.proofs.SetLaws.{sent, ends}
use Rattle.definitions.proofs.ListingLaws.{never_blank}
use Rattle.definitions.proofs.laws.each_second_is_sent.Goals as goal

pub returns-clause-sent : goal.returns-clause-sent
returns-clause-sent c = sent

pub returns-clause-listed : goal.returns-clause-listed
returns-clause-listed c = λ station announced t s lt.
    never_blank station (allowed station announced (t, s)) (sent station announced t s lt)

pub returns-clause-ends : goal.returns-clause-ends
returns-clause-ends c = ends
