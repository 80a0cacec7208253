-- What is told over the calls that append to a file: that it is made, and that pieces are added to it.
use Rattle.std.proofs.Common.{◌≡◌, ◌≢◌, ◌⊎◌, ◌||◌, ℕ, Bool, true, false, List, Result, Ok, Err, IfOk, OnErr, is_err, take, refl, sym, ◌∙◌, ap, subst, inl, ⊎_elim}
use Rattle.std.proofs.lemmas.Bool.{false≢true}
use Rattle.std.proofs.lemmas.Bool.Decides.{eqb_tells}
use Rattle.bank_files.specs.Told.{Told, Untold, Missing, appended}
use Rattle.machine_files.specs.Disk.{Entry, Unknown, Absent, Inode, Disk, told_at}
use Rattle.machine_files.specs.Calls.{Makes, OnlyFile, Adds, Stays}

-- two names that are told don't lead to one inode
abbrev pub AreApart : Disk → Type 0
AreApart disk = (a b : List ℕ) (number : ℕ) → disk.entry a ≡ Inode number → disk.entry b ≡ Inode number → a ≡ b

-- what is missing is told
missing_is_told : Missing ≢ Untold
missing_is_told h = cc

-- nothing was done
pub only_start : (a : Disk) (name : List ℕ) → OnlyFile a a name
only_start a name = record { entries = λ other ne. refl; files = λ other ne. refl; output = refl }

-- one call after another
pub only_then : (a b c : Disk) (name : List ℕ) → OnlyFile a b name → OnlyFile b c name → OnlyFile a c name
only_then a b c name h k = record {
  entries = λ other ne. k.entries other ne ∙ h.entries other ne;
  files = λ other ne. subst (λ (e : Entry). told_at c e ≡ told_at b e) (h.entries other ne) (k.files other ne) ∙ h.files other ne;
  output = k.output ∙ h.output;
}

-- nothing was done
pub stays_start : (a : Disk) → Stays a a
stays_start a = record { entries = λ name there. refl; untold = λ name none. none }

-- one call after another
pub stays_then : (a b c : Disk) → Stays a b → Stays b c → Stays a c
stays_then a b c h k = record {
  entries = λ name there. k.entries name (λ gone. there (sym (h.entries name there) ∙ gone)) ∙ h.entries name there;
  untold = λ name none. by_entry name (λ gone. missing_is_told (subst (λ (e : Entry). told_at a e ≡ Untold) gone none)) none;
}
  where
    by_entry : (name : List ℕ) → a.entry name ≢ Absent → told_at a (a.entry name) ≡ Untold → told_at c (a.entry name) ≡ Untold
    by_entry name there none =
        let same : b.entry name ≡ a.entry name = h.entries name there in
        let mid : told_at b (b.entry name) ≡ Untold = subst (λ (e : Entry). told_at b e ≡ Untold) (sym same) (h.untold name none) in
        subst (λ (e : Entry). told_at c e ≡ Untold) same (k.untold name mid)

-- what is there stays what it is where a file is made
pub makes_stays : (a b : Disk) (name : List ℕ) → Makes a b name → Stays a b
makes_stays a b name h = by_entry (a.entry name) refl
  where
    same : a.entry name ≢ Absent → Stays a b
    same there = subst (λ (d : Disk). Stays a d) (sym (h.stays there)) (stays_start a)

    by_entry : (e : Entry) → a.entry name ≡ e → Stays a b
    by_entry Unknown is = same (λ gone. cc)
    by_entry Absent gone = record {
      entries = λ n there. h.only.entries n (λ same. there (ap a.entry same ∙ gone));
      untold = λ n none. h.only.files n (λ same. missing_is_told (subst (λ (e : Entry). told_at a e ≡ Untold) (ap a.entry same ∙ gone) none)) ∙ none;
    }
    by_entry (Inode number) is = same (λ gone. cc)

-- a piece that is added to a file changes no other
pub adds_only : (a b : Disk) (name piece : List ℕ) (leads : Entry) → AreApart a → leads ≡ a.entry name → Adds a b leads piece → OnlyFile a b name
adds_only a b name piece leads apart is h = record {
  entries = λ other ne. ap (λ (f : List ℕ → Entry). f other) h.entries;
  files = λ other ne. by_entry other ne (a.entry other) refl;
  output = h.output;
}
  where
    by_entry : (other : List ℕ) → other ≢ name → (e : Entry) → a.entry other ≡ e → told_at b e ≡ told_at a e
    by_entry other ne Unknown at = refl
    by_entry other ne Absent at = refl
    by_entry other ne (Inode number) at = h.others (Inode number) (λ same. ne (apart other name number at (sym is ∙ sym same)))

-- what is there stays what it is where a piece is added
pub adds_stays : (a b : Disk) (piece : List ℕ) (leads : Entry) → Adds a b leads piece → Stays a b
adds_stays a b piece leads h = record {
  entries = λ name there. ap (λ (f : List ℕ → Entry). f name) h.entries;
  untold = λ name none. by_entries (a.entry name) leads none h.file h.others;
}
  where
    by_entries : (e l : Entry) → told_at a e ≡ Untold → told_at b l ≡ appended (told_at a l) piece
        → ((other : Entry) → other ≢ l → told_at b other ≡ told_at a other) → told_at b e ≡ Untold
    by_entries Unknown l none file others = refl
    by_entries Absent l none file others = none
    by_entries (Inode n) Unknown none file others = others (Inode n) (λ same. cc) ∙ none
    by_entries (Inode n) Absent none file others = others (Inode n) (λ same. cc) ∙ none
    by_entries (Inode n) (Inode m) none file others = ⊎_elim
        (λ same. subst (λ k. b.inode k ≡ Untold) (sym same.1) (file ∙ ap (λ t. appended t piece) (subst (λ k. a.inode k ≡ Untold) same.1 none)))
        (λ other. others (Inode n) (λ same. other.1 cc) ∙ none)
        (eqb_tells n m)

-- what an append to an open file may leave of all that is told
pub added : {E : Type 0} (a b : Disk) (name bytes : List ℕ) (leads : Entry) (result : Result ℕ E) → AreApart a → leads ≡ a.entry name
    → IfOk result (λ n. Adds a b leads (take n bytes)) → OnErr result (b ≡ a) → OnlyFile a b name × Stays a b
added a b name bytes leads (Ok n) apart is adds same = (adds_only a b name (take n bytes) leads apart is adds, adds_stays a b (take n bytes) leads adds)
added a b name bytes leads (Err e) apart is adds same = subst (λ (d : Disk). OnlyFile a d name × Stays a d) (sym same) (only_start a name, stays_start a)

-- what is told of the file itself after that
pub told_added : {E : Type 0} (a b : Disk) (name bytes : List ℕ) (leads : Entry) (result : Result ℕ E) → leads ≡ a.entry name
    → IfOk result (λ n. Adds a b leads (take n bytes)) → IfOk result (λ n. told_at b (b.entry name) ≡ appended (told_at a (a.entry name)) (take n bytes))
told_added a b name bytes leads (Ok n) is adds =
    ap (λ (e : Entry). told_at b e) (ap (λ (f : List ℕ → Entry). f name) adds.entries ∙ sym is) ∙ adds.file ∙ ap (λ (e : Entry). appended (told_at a e) (take n bytes)) is
told_added a b name bytes leads (Err e) is adds = tt

-- a piece at the end of a file that was made is that piece
told_made : (a b : Disk) (name piece : List ℕ) → Makes a b name → appended (told_at b (b.entry name)) piece ≡ appended (told_at a (a.entry name)) piece
told_made a b name piece h = by_entry (a.entry name) refl
  where
    same : a.entry name ≢ Absent → appended (told_at b (b.entry name)) piece ≡ appended (told_at a (a.entry name)) piece
    same there = ap (λ (d : Disk). appended (told_at d (d.entry name)) piece) (h.stays there)

    by_entry : (e : Entry) → a.entry name ≡ e → appended (told_at b (b.entry name)) piece ≡ appended (told_at a (a.entry name)) piece
    by_entry Unknown is = same (λ gone. cc)
    by_entry Absent gone = ap (λ (t : Told). appended t piece) (h.made gone) ∙ ap (λ (e : Entry). appended (told_at a e) piece) (sym gone)
    by_entry (Inode number) is = same (λ gone. cc)

-- the same, where the file was opened before, and perhaps made
pub told_made_and_added : {E : Type 0} (a b c : Disk) (name bytes : List ℕ) (leads : Entry) (result : Result ℕ E) → leads ≡ b.entry name
    → Makes a b name → IfOk result (λ n. Adds b c leads (take n bytes)) → IfOk result (λ n. told_at c (c.entry name) ≡ appended (told_at a (a.entry name)) (take n bytes))
told_made_and_added a b c name bytes leads (Ok n) is makes adds = told_added {E = ⊥} b c name bytes leads (Ok n) is adds ∙ told_made a b name (take n bytes) makes
told_made_and_added a b c name bytes leads (Err e) is makes adds = tt

-- what an append to a file that was opened before, and perhaps made, may leave of all that is told
pub made_and_added : {E : Type 0} (a b c : Disk) (name bytes : List ℕ) (leads : Entry) (result : Result ℕ E) → AreApart b → leads ≡ b.entry name
    → Makes a b name → IfOk result (λ n. Adds b c leads (take n bytes)) → OnErr result (c ≡ b) → OnlyFile a c name × Stays a c
made_and_added a b c name bytes leads result apart is makes adds same =
    let more : OnlyFile b c name × Stays b c = added b c name bytes leads result apart is adds same in
    (only_then a b c name makes.only more.0, stays_then a b c (makes_stays a b name makes) more.1)

-- files that are in doubt stay so
pub in_doubt_still : (doubt failed : Bool) → doubt ≡ true → (doubt || failed) ≡ true
in_doubt_still true failed is = refl
in_doubt_still false failed is = absurd (false≢true is)

-- files come into doubt where a call failed
pub in_doubt_now : {T E : Type 0} (P : Type 0) (doubt failed : Bool) (result : Result T E) → failed ≡ is_err result → OnErr result (((doubt || failed) ≡ true) ⊎ P)
in_doubt_now P doubt failed (Ok value) is = tt
in_doubt_now P true failed (Err e) is = inl refl
in_doubt_now P false failed (Err e) is = inl is
