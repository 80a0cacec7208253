-- How the pieces that are read of a file make up the file.
use Rattle.std.proofs.Common.{◌≡◌, ℕ, ◌+◌, ◌-◌, ◌<◌, ◌≤◌, List, ◌++◌, length, take, drop, refl, sym, ◌∙◌, ap, subst, arith, length-append, length-drop}
use Rattle.std.proofs.lemmas.List.{length-take, length-take-le, take_all}
use Rattle.std.proofs.Math.Seq.{take-add}
use Rattle.bank_files.specs.Told.{Told, Holds, Finds, Reads}
use Rattle.bank_files.proofs.Telling.{Finds-weaker}

-- the file's front, as many bytes as there are
abbrev pub IsFront : List ℕ → List ℕ → Type 0
IsFront bytes file = bytes ≡ take (length bytes) file

-- what was read is in the file
pub Reads-within : (file : List ℕ) (at n : ℕ) (buffer : List ℕ) → n ≤ length buffer → Reads file at n buffer → n ≤ length file - at
Reads-within file at n buffer fits r =
    let whole : length (take n buffer) ≡ n = length-take-le n buffer fits in
    let same : length (take n buffer) ≡ length (take n (drop at file)) = ap length r.front in
    omega (arith, whole, same, length-take n (drop at file), length-drop at file)

-- a piece more of the front
pub IsFront-more : (file bytes buffer : List ℕ) (n : ℕ) → n ≤ length buffer → IsFront bytes file → Reads file (length bytes) n buffer → IsFront (bytes ++ take n buffer) file
IsFront-more file bytes buffer n fits front r =
    let whole : length (take n buffer) ≡ n = length-take-le n buffer fits in
    let long : length (bytes ++ take n buffer) ≡ length bytes + n = omega (arith, whole, length-append bytes (take n buffer)) in
    ap (λ xs. xs ++ take n buffer) front ∙ ap (λ xs. take (length bytes) file ++ xs) r.front ∙ sym (take-add (length bytes) n file) ∙ ap (λ k. take k file) (sym long)

-- the front is the file where nothing more is read
pub IsFront-whole : (file bytes buffer : List ℕ) (limit : ℕ) → 0 < length buffer → length bytes ≤ limit → IsFront bytes file → Reads file (length bytes) 0 buffer → (bytes ≡ file) × (length file ≤ limit)
IsFront-whole file bytes buffer limit room within front r =
    let short : length file ≤ length bytes = r.end refl room in
    (front ∙ take_all (length bytes) file short, omega arith)

-- the file is longer than the limit where more is read than the limit leaves
pub Reads-exceeds : (file buffer : List ℕ) (at n limit : ℕ) → n ≤ length buffer → at ≤ limit → limit - at < n → Reads file at n buffer → limit < length file
Reads-exceeds file buffer at n limit fits below over r = omega (arith, Reads-within file at n buffer fits r)

-- what the last read says of the whole file: t is what was told at first, and u what is told at that read
pub file_whole : (t u : Told) (bytes buffer : List ℕ) (at n limit : ℕ) → u ≡ t → at ≡ length bytes → n ≡ 0 → 0 < length buffer → length bytes ≤ limit
    → ((file : List ℕ) → t ≡ Holds file → IsFront bytes file) → Finds u (λ file. Reads file at n buffer) → Finds t (λ file. (bytes ≡ file) × (length file ≤ limit))
file_whole t u bytes buffer at n limit same here none room within front read =
    Finds-weaker t (λ file. Reads file at n buffer) (λ file. (bytes ≡ file) × (length file ≤ limit))
    (λ file is r. IsFront-whole file bytes buffer limit room within (front file is) (subst (λ k. Reads file k 0 buffer) here (subst (λ k. Reads file at k buffer) none r)))
    (subst (λ s. Finds s (λ file. Reads file at n buffer)) same read)

-- what a read past the limit says of the file
pub file_exceeds : (t u : Told) (buffer : List ℕ) (at n limit : ℕ) → u ≡ t → n ≤ length buffer → at ≤ limit → limit - at < n
    → Finds u (λ file. Reads file at n buffer) → Finds t (λ file. limit < length file)
file_exceeds t u buffer at n limit same fits below over read =
    Finds-weaker t (λ file. Reads file at n buffer) (λ file. limit < length file)
    (λ file is r. Reads-exceeds file buffer at n limit fits below over r)
    (subst (λ s. Finds s (λ file. Reads file at n buffer)) same read)

-- what a read adds to the front
pub file_more : (t u : Told) (bytes buffer : List ℕ) (at n : ℕ) → u ≡ t → at ≡ length bytes → n ≤ length buffer
    → ((file : List ℕ) → t ≡ Holds file → IsFront bytes file) → Finds u (λ file. Reads file at n buffer)
    → (file : List ℕ) → t ≡ Holds file → IsFront (bytes ++ take n buffer) file
file_more t u bytes buffer at n same here fits front read file is =
    let r : Reads file at n buffer = subst (λ s. Finds s (λ file. Reads file at n buffer)) (same ∙ is) read in
    IsFront-more file bytes buffer n fits (front file is) (subst (λ k. Reads file k n buffer) here r)
