-- Lines of queries: a text begins with one at most, and whether it does can be decided.
use Rattle.std.proofs.Common.{◌≡◌, ℕ, ◌+◌, ◌<◌, inl, inr, List, [], ◌∷◌, ◌++◌, length, sym, ap, ◌∙◌, arith, append_assoc, append-nil, length-append}
use Rattle.std.specs.Fmt.{decimal}
use Rattle.std.proofs.lemmas.Fmt.{decimal_injective, decimal_is_IsNumeral, decimal_nonempty}
use Rattle.std.proofs.lemmas.Grind.{flat_map-append}
use Rattle.std.proofs.lemmas.Str.Parse.{digit_at}
use Rattle.definitions.proofs.ExistLaws.{Decided, decide_some}
use Rattle.formats.specs.Bytes.{line_feed}
use Rattle.formats.proofs.FrameEdgeLaws.{Avoids, avoids_each, split_once}
use Rattle.certificates.specs.Texts.{BeginsWith}
use Rattle.certificates.proofs.ChoiceLaws.{decide_begins}
use Rattle.board_due.specs.Queries.{BeginsWithQuery, IsQuery, queries_text, query_line}
use Rattle.board_due.specs.declared.queries.TheConstants.{QUERY_LIMIT}

-- a line has some bytes
pub line_some : (ms : ℕ) → IsQuery ms → 0 < length (query_line ms)
line_some ms below =
    omega (arith, length-append (decimal ms) (10 ∷ []), decimal_nonempty ms (omega (arith, below)))

-- one byte is no line, since a line has a digit and its end
pub lone_byte : (b : ℕ) → ¬ (BeginsWithQuery (b ∷ []))
lone_byte b begins =
    let ms = begins.0 in
    let more = begins.1 in
    let below : ms < 1_000_000_000_000 = begins.2 in
    let long : 1 ≡ length (query_line ms ++ more) = ap length begins.3 in
    let parts : length (query_line ms ++ more) ≡ length (query_line ms) + length more = length-append (query_line ms) more in
    let line_parts : length (query_line ms) ≡ length (decimal ms) + 1 = length-append (decimal ms) (10 ∷ []) in
    let some : 0 < length (decimal ms) = decimal_nonempty ms (omega arith) in
    omega arith

-- nothing is none
pub nothing_begins : (rest : List ℕ) → rest ≡ [] → ¬ (BeginsWithQuery rest)
nothing_begins rest none begins =
    let ms = begins.0 in
    let more = begins.1 in
    let long : length rest ≡ length (query_line ms ++ more) = ap length begins.3 in
    let over : length rest ≡ 0 = ap length none in
    omega (arith, long, over, length-append (query_line ms) more, line_some ms begins.2)

-- the number of a query has no end of a line in it
pub number_avoids : (ms : ℕ) → IsQuery ms → Avoids line_feed (decimal ms)
number_avoids ms below =
    let numeral = (decimal_is_IsNumeral ms (omega (arith, below))).0 in
    avoids_each line_feed (decimal ms) (λ k h e. let digit = digit_at (decimal ms) k numeral.1 h in omega (arith, digit.0, e))

pub apart : (ms : ℕ) (tail : List ℕ) → query_line ms ++ tail ≡ decimal ms ++ line_feed ∷ tail
apart ms tail = append_assoc (decimal ms) (line_feed ∷ []) tail

-- a text begins with one query at most
pub query_once : (m n : ℕ) (r s : List ℕ) → IsQuery m → IsQuery n → query_line m ++ r ≡ query_line n ++ s → (m ≡ n) × (r ≡ s)
query_once m n r s small also e =
    let same = split_once line_feed (decimal m) (decimal n) r s (number_avoids m small) (number_avoids n also) (sym (apart m r) ∙ (e ∙ apart n s)) in
    (decimal_injective m n (omega (arith, small)) (omega (arith, also)) same.0, same.1)

-- whether it begins with one
pub decide_query : (rest : List ℕ) → Decided (BeginsWithQuery rest)
decide_query rest = put (decide_some (λ ms. BeginsWith (query_line ms) rest) (λ ms. decide_begins (query_line ms) rest) QUERY_LIMIT)
  where
    put : Decided ((ms : ℕ) × (ms < QUERY_LIMIT) × BeginsWith (query_line ms) rest) → Decided (BeginsWithQuery rest)
    put (inl h) = inl (h.0, h.2.0, h.1, h.2.1)
    put (inr n) = inr (λ h. n (h.0, h.2, (h.1, h.3)))

-- one query more
pub text_more : (queries : List ℕ) (ms : ℕ) → queries_text (queries ++ ms ∷ []) ≡ queries_text queries ++ query_line ms
text_more queries ms =
    flat_map-append query_line queries (ms ∷ []) ∙ ap (λ l. queries_text queries ++ l) (append-nil (query_line ms))

pub read_on : (text : List ℕ) (queries : List ℕ) (rest : List ℕ) (ms : ℕ) (more : List ℕ) → text ≡ queries_text queries ++ rest → rest ≡ query_line ms ++ more
    → text ≡ queries_text (queries ++ ms ∷ []) ++ more
read_on text queries rest ms more read begins =
    read ∙ (ap (λ l. queries_text queries ++ l) begins
    ∙ (sym (append_assoc (queries_text queries) (query_line ms) more) ∙ ap (λ l. l ++ more) (sym (text_more queries ms))))

-- less is left behind a query
pub less_left : (ms : ℕ) (rest more : List ℕ) → IsQuery ms → rest ≡ query_line ms ++ more → length more < length rest
less_left ms rest more below e =
    omega (arith, ap (λ (l : List ℕ). length l) e, length-append (query_line ms) more, line_some ms below)
