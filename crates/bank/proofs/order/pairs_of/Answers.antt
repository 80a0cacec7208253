-- What is collected is what the two lists yield together.
use Rattle.std.proofs.Common.{◌∙◌, rules}
use Rattle.std.proofs.lemmas.Iterator.{YieldsList-from_zip, items_from_collect}
use Rattle.std.proofs.lemmas.Iterator.Adapters.{YieldsList-from_vec}
use Rattle.bank.proofs.order.pairs_of.Goals as goal

pub returns : goal.returns
returns c =
    items_from_collect _ c.collect.ensures.ran
    (YieldsList-from_zip {s = c.zip.result} (YieldsList-from_vec {s = c.zip.result.a} c.args.receivers.items (search rules) (search rules)) (YieldsList-from_vec {s = c.zip.result.b} c.args.logs.items c.zip.ensures.second.0 (c.zip.ensures.second.1 ∙ c.args.logs.ok.0)))
