-- The words so far.
use Rattle.std.proofs.Common.{◌≡◌, ◌∷◌, codes, take}
use Rattle.bank_words.specs.Seen.{texts_of}
use Rattle.heard.proofs.words.decode_words.Given as goal

abbrev pub invariant-loop-i : goal.invariant-loop-i
invariant-loop-i l = texts_of l.all.items ≡ codes "decode" ∷ texts_of (take l.i l.words)
