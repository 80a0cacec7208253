-- What is known of a file that was kept open, once it was found by its name.
use Rattle.std.proofs.Common.{◌≡◌, ℕ, List, Option, Some, None, String, string_bytes, Result, Ok, Err, IfSome, IsSomeAnd, IfOk, OnOk, OnErr, take, refl, subst, sym, ◌∙◌, ap}
use Rattle.std.specs.Option.{ForSome}
use Rattle.machine_files.specs.declared.opened.Opened.{Opened}
use Rattle.machine_files.specs.Disk.{Entry, Disk}
use Rattle.machine_files.specs.Calls.{Adds, Opens}
use Rattle.machine_files.specs.Opened.{IsNamed, IsOpenedBy, IsOpen, IsKeptToAppend}

-- what holds at the name that is kept holds at the name that it was found by
at_name : {A : Type 0} (Q : List ℕ → Type 0) (kept : Option (String A)) (name : List ℕ) → IsNamed kept name → ForSome kept (λ text. Q (string_bytes text)) → Q name
at_name Q None name named known = absurd named
at_name Q (Some text) name named known = subst Q named (known text refl)

-- what is known of the file that is kept is known of the file that was found
pub found_by : {F : Type 0} (Q : List ℕ → Opened F → Type 0) (kept : Option (Opened F)) (opened : Opened F) (name : List ℕ)
    → ForSome kept (λ o. ForSome o.name (λ text. Q (string_bytes text) o)) → kept ≡ Some opened → IsNamed opened.name name → Q name opened
found_by Q kept opened name known is named = at_name (λ n. Q n opened) opened.name name named (known opened is)

-- a file that was found open to be appended to is that of its name
pub found_to_append : {F : Type 0} (disk : Disk) (leads : F → Entry) (kept : Option (Opened F)) (opened : Opened F) (name : List ℕ)
    → ForSome kept (IsKeptToAppend disk leads) → kept ≡ Some opened → IsNamed opened.name name → IsOpen disk (leads opened.file) name
found_to_append disk leads kept opened name = found_by (λ n o. IsOpen disk (leads o.file) n) kept opened name

-- a name that was kept is the one that the file was opened by
opened_by_named : {A : Type 0} (kept : Option (String A)) (name : List ℕ) → IsNamed kept name → IsOpenedBy kept name
opened_by_named None name named = absurd named
opened_by_named (Some text) name named = named

-- the name that was kept, if any
name_is : {A : Type 0} (kept : Option (String A)) (text : String A) (name : List ℕ) → IsOpenedBy kept name → kept ≡ Some text → string_bytes text ≡ name
name_is None text name by is = cc
name_is {A = A} (Some kept) text name by is = let same : kept ≡ text = cc in subst (λ (t : String A). string_bytes t ≡ name) same by

-- a file that stays open after an append to it is that of its name
pub kept_added : {F E : Type 0} (a b : Disk) (leads : F → Entry) (opened : Opened F) (before kept : Option (Opened F)) (name bytes : List ℕ) (result : Result ℕ E)
    → IsOpenedBy opened.name name → IsOpen a (leads opened.file) name → IfOk result (λ n. Adds a b (leads opened.file) (take n bytes))
    → OnOk result (IsSomeAnd kept (λ now. (now.name ≡ opened.name) × (leads now.file ≡ leads opened.file))) → before ≡ None → OnErr result (kept ≡ before)
    → ForSome kept (IsKeptToAppend b leads)
kept_added a b leads opened before None name bytes result by open_there adds stays none closed o is text named = cc
kept_added a b leads opened before (Some now) name bytes (Err e) by open_there adds stays none closed o is text named = cc
kept_added {F = F} a b leads opened before (Some now) name bytes (Ok n) by open_there adds stays none closed o is text named =
    let same : o ≡ now = cc in
    let old_name : opened.name ≡ Some text = sym stays.0 ∙ ap (λ (p : Opened F). p.name) (sym same) ∙ named in
    let is_name : string_bytes text ≡ name = name_is opened.name text name by old_name in
    let lead : leads o.file ≡ leads opened.file = ap (λ (p : Opened F). leads p.file) same ∙ stays.1 in
    record {
      there = λ gone. open_there.there (sym lead ∙ gone);
      same = lead ∙ open_there.same ∙ sym (ap (λ (f : List ℕ → Entry). f name) adds.entries) ∙ ap b.entry (sym is_name);
    }

-- the same, of a file that was found by its name
pub kept_found : {F E : Type 0} (a b : Disk) (leads : F → Entry) (opened : Opened F) (before kept : Option (Opened F)) (name bytes : List ℕ) (result : Result ℕ E)
    → IsNamed opened.name name → IsOpen a (leads opened.file) name → IfOk result (λ n. Adds a b (leads opened.file) (take n bytes))
    → OnOk result (IsSomeAnd kept (λ now. (now.name ≡ opened.name) × (leads now.file ≡ leads opened.file))) → before ≡ None → OnErr result (kept ≡ before)
    → ForSome kept (IsKeptToAppend b leads)
kept_found a b leads opened before kept name bytes result named = kept_added a b leads opened before kept name bytes result (opened_by_named opened.name name named)

-- a file that stays open after a call keeps its name
pub stays_named : {F E T : Type 0} (leads : F → Entry) (opened : Opened F) (kept : Option (Opened F)) (name : List ℕ) (result : Result T E) → IsOpenedBy opened.name name
    → OnOk result (IsSomeAnd kept (λ now. (now.name ≡ opened.name) × (leads now.file ≡ leads opened.file))) → OnOk result (IsSomeAnd kept (λ now. IsOpenedBy now.name name))
stays_named leads opened kept name (Err e) by stays = tt
stays_named leads opened None name (Ok n) by stays = stays
stays_named leads opened (Some now) name (Ok n) by stays = subst (λ o. IsOpenedBy o name) (sym stays.0) by

-- the same, of a file that was found by its name
pub found_stays_named : {F E T : Type 0} (leads : F → Entry) (opened : Opened F) (kept : Option (Opened F)) (name : List ℕ) (result : Result T E) → IsNamed opened.name name
    → OnOk result (IsSomeAnd kept (λ now. (now.name ≡ opened.name) × (leads now.file ≡ leads opened.file))) → OnOk result (IsSomeAnd kept (λ now. IsOpenedBy now.name name))
found_stays_named leads opened kept name result named = stays_named leads opened kept name result (opened_by_named opened.name name named)

-- a file that was opened by a name is that of its name
pub just_opened : {F : Type 0} (disk : Disk) (leads : F → Entry) (file opened : F) (name : List ℕ) (place : ℕ) → opened ≡ file → Opens (disk.entry name) (leads file) place → IsOpen disk (leads opened) name
just_opened disk leads file opened name place is opens =
    let same : leads opened ≡ disk.entry name = ap leads is ∙ opens.same in
    record { there = λ gone. opens.there (sym same ∙ gone); same = same }

-- a file that stands open and isn't that of the name
pub not_open : {F : Type 0} (kept : Option (Opened F)) (name : List ℕ) → IfSome kept (λ opened. ¬ (IsNamed opened.name name)) → IsSomeAnd kept (λ opened. IsNamed opened.name name) → ⊥
not_open None name other named = named
not_open (Some opened) name other named = other named
