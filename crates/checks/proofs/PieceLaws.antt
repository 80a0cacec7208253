-- How the pieces that are read of a file make up the file.
use Rattle.std.proofs.Common.{◌≡◌, ℕ, ◌+◌, ◌-◌, ◌<◌, ◌≤◌, List, ◌++◌, length, take, drop, refl, sym, ◌∙◌, ap, subst, arith, length-append, length-drop}
use Rattle.std.proofs.lemmas.List.{length-take, length-take-le, take_all}
use Rattle.std.proofs.Math.Seq.{take-add}
use Rattle.bank_files.specs.Told.{Told, Holds, Finds, Reads}
use Rattle.bank_files.proofs.Telling.{Finds-weaker}

-- the file's front, as many bytes as there are
abbrev pub IsFront : List ℕ → List ℕ → Type 0
IsFront bytes file = bytes ≡ take (length bytes) file

-- as far as the file is told, the bytes are its front
abbrev pub IsFrontOf : Told → List ℕ → Type 0
IsFrontOf t bytes = (file : List ℕ) → t ≡ Holds file → IsFront bytes file

-- t is what was told at first, and u what is told at a read of n bytes from a place on
module _ (t u : Told) (buffer : List ℕ) (at n : ℕ) (same : u ≡ t) (fits : n ≤ length buffer) (read : Finds u (λ file. Reads file at n buffer)) where
  told_at_first : Finds t (λ file. Reads file at n buffer)
  told_at_first = subst (λ s. Finds s (λ file. Reads file at n buffer)) same read

  -- what was read is in the file
  within : (file : List ℕ) → Reads file at n buffer → n ≤ length file - at
  within file r =
      let whole : length (take n buffer) ≡ n = length-take-le n buffer fits in
      let alike : length (take n buffer) ≡ length (take n (drop at file)) = ap length r.front in
      omega (arith, whole, alike, length-take n (drop at file), length-drop at file)

  -- the front is the file where nothing more is read
  pub file_whole : (bytes : List ℕ) → at ≡ length bytes → n ≡ 0 → 0 < length buffer → IsFrontOf t bytes → Finds t (λ file. bytes ≡ file)
  file_whole bytes here none room front =
      Finds-weaker t (λ file. Reads file at n buffer) (λ file. bytes ≡ file)
      (λ file is r.
      let ends : length file ≤ at = r.end none room in
      let short : length file ≤ length bytes = omega (arith, ends, here) in
      front file is ∙ take_all (length bytes) file short) told_at_first

  -- the file is longer than a limit where more is read than the limit leaves
  pub file_exceeds : (limit : ℕ) → at ≤ limit → limit - at < n → Finds t (λ file. limit < length file)
  file_exceeds limit below over =
      Finds-weaker t (λ file. Reads file at n buffer) (λ file. limit < length file)
      (λ file is r. let inside = within file r in omega (arith, inside, below, over)) told_at_first

  -- a piece more of the front
  pub file_more : (bytes : List ℕ) → at ≡ length bytes → IsFrontOf t bytes → IsFrontOf t (bytes ++ take n buffer)
  file_more bytes here front file is =
      let r : Reads file at n buffer = subst (λ s. Finds s (λ file. Reads file at n buffer)) (same ∙ is) read in
      let whole : length (take n buffer) ≡ n = length-take-le n buffer fits in
      let long : length (bytes ++ take n buffer) ≡ length bytes + n = omega (arith, whole, length-append bytes (take n buffer)) in
      let there : take n buffer ≡ take n (drop (length bytes) file) = subst (λ k. take n buffer ≡ take n (drop k file)) here r.front in
      ap (λ xs. xs ++ take n buffer) (front file is) ∙ ap (λ xs. take (length bytes) file ++ xs) there ∙ sym (take-add (length bytes) n file) ∙ ap (λ k. take k file) (sym long)

  pub length_more : (bytes : List ℕ) → at ≡ length bytes → at + n ≡ length (bytes ++ take n buffer)
  length_more bytes here = omega (arith, here, length-take-le n buffer fits, length-append bytes (take n buffer))
