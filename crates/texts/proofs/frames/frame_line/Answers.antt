-- The pieces of the line, joined.
use Rattle.std.proofs.Common.{◌≡◌, ℕ, List, [], ◌∷◌, ◌++◌, codes, append_assoc}
use Rattle.std.specs.Fmt.{decimal}
use Rattle.definitions.specs.time.Spelling.{minute_text}
use Rattle.formats.specs.Bytes.{line_feed, space}
use Rattle.texts.proofs.frames.frame_line.Goals as goal

joined : (t0 t1 t2 t3 t4 t5 t6 t7 at ms minute second : List ℕ) (gap feed : ℕ) → t0 ≡ [] → t1 ≡ t0 ++ at → t2 ≡ t1 ++ ms → t3 ≡ t2 ++ gap ∷ [] → t4 ≡ t3 ++ minute
    → t5 ≡ t4 ++ gap ∷ [] → t6 ≡ t5 ++ second → t7 ≡ t6 ++ feed ∷ [] → t7 ≡ (at ++ ms ++ gap ∷ minute ++ gap ∷ second) ++ feed ∷ []
joined t0 t1 t2 t3 t4 t5 t6 t7 at ms minute second gap feed e0 e1 e2 e3 e4 e5 e6 e7 = rw (e7, e6, e5, e4, e3, e2, e1, e0) (simp append_assoc)

pub returns : goal.returns
returns c =
    let frame = c.args.frame.now in
    joined _ _ _ _ _ _ _ _ (codes "at ") (decimal frame.at) (minute_text frame.minute) (decimal frame.second) space line_feed c.new-text.ensures c.push_str.ensures.bytes
    c.push_number.ensures.bytes c.push_str-2.ensures.bytes c.push_minute.ensures.bytes c.push_str-3.ensures.bytes c.push_number-2.ensures.bytes c.push_str-4.ensures.bytes
