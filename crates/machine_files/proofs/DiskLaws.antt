-- The disk of files in memory, after one of them was made, emptied or appended to.
use Rattle.std.proofs.Common.{◌≡◌, ◌≢◌, ◌+◌, ◌<◌, ◌++◌, ◌∷◌, ℕ, Bool, true, false, nat_lt, if◌then◌else◌, List, [], length, get_or, string_bytes, slice_set, refl, sym, ◌∙◌, ap, subst, arith, length-append}
use Rattle.std.proofs.lemmas.Bool.{lt-ltb, false_from_ne_true}
use Rattle.std.proofs.lemmas.List.{get_or_append_left, get_or-set_same, get_or-set_other}
use Rattle.std.proofs.Math.ListN.{length-set, length-map}
use Rattle.std.proofs.Math.Seq.{get_or-append_seam}
use Rattle.std.proofs.lemmas.Slice.Eq.{bytes_eq-Decides}
use Rattle.std.specs.Str.{bytes_eq}
use Rattle.bank_files.specs.Told.{Told, Holds, Missing, emptied, appended}
use Rattle.machine_files.specs.Disk.{Entry, Unknown, Absent, Inode, Disk, told_at}
use Rattle.machine_files.specs.Calls.{OnlyFile, Opens, Makes, Empties, Adds}
use Rattle.machine_files.specs.Stored.{entry_from, inode_in, disk_of, names_of, contents_of, AddsFile, Writes, entry_within, entry_apart}
use Rattle.machine_files.specs.Memory.{Puts}
use Rattle.machine_files.specs.declared.store.MemoryFile.{MemoryFile}
use Rattle.machine_files.proofs.Appending.{only_start, only_then, adds_only}

-- an inode is there
inode_is_there : (k : ℕ) → Inode k ≢ Absent
inode_is_there k h = cc

-- a file that was added under another name leaves this one where it led
entry_other : (n : ℕ) (ns : List (List ℕ)) (name other : List ℕ) → other ≢ name → entry_from n (ns ++ name ∷ []) other ≡ entry_from n ns other
entry_other n [] name other ne = ap (λ (b : Bool). if b then Inode n else Absent) (false_from_ne_true (bytes_eq name other) (λ yes. ne (sym ((bytes_eq-Decides name other).0 yes))))
entry_other n (first ∷ rest) name other ne = ap (λ (e : Entry). if bytes_eq first other then Inode n else e) (entry_other (n + 1) rest name other ne)

-- a name that led nowhere leads to the file that was added under it
entry_new : (n : ℕ) (ns : List (List ℕ)) (name : List ℕ) → entry_from n ns name ≡ Absent → entry_from n (ns ++ name ∷ []) name ≡ Inode (n + length ns)
entry_new n [] name gone = ap (λ (b : Bool). if b then Inode n else Absent) ((bytes_eq-Decides name name).1 refl) ∙ ap Inode (omega arith)
entry_new n (first ∷ rest) name gone = by_test (bytes_eq first name) (entry_new (n + 1) rest name) gone
  where
    by_test : (b : Bool) → (entry_from (n + 1) rest name ≡ Absent → entry_from (n + 1) (rest ++ name ∷ []) name ≡ Inode (n + 1 + length rest))
        → (if b then Inode n else entry_from (n + 1) rest name) ≡ Absent → (if b then Inode n else entry_from (n + 1) (rest ++ name ∷ []) name) ≡ Inode (n + length (first ∷ rest))
    by_test true more here = cc
    by_test false more later = more later ∙ ap Inode (omega arith)

-- a file that is there holds its bytes
inode_is : (cs : List (List ℕ)) (k : ℕ) → k < length cs → inode_in cs k ≡ Holds (get_or cs k [])
inode_is cs k within = ap (λ (b : Bool). if b then Holds (get_or cs k []) else Missing) (lt-ltb k (length cs) within)

-- a file that was added leaves those before it
inode_other : (cs : List (List ℕ)) (bytes : List ℕ) (k : ℕ) → k < length cs → inode_in (cs ++ bytes ∷ []) k ≡ inode_in cs k
inode_other cs bytes k within =
    inode_is (cs ++ bytes ∷ []) k (omega (arith, length-append cs (bytes ∷ []))) ∙ ap Holds (get_or_append_left cs (bytes ∷ []) [] k within) ∙ sym (inode_is cs k within)

-- the file that was added
inode_new : (cs : List (List ℕ)) (bytes : List ℕ) → inode_in (cs ++ bytes ∷ []) (length cs) ≡ Holds bytes
inode_new cs bytes = inode_is (cs ++ bytes ∷ []) (length cs) (omega (arith, length-append cs (bytes ∷ []))) ∙ ap Holds (get_or-append_seam cs bytes [] [])

-- the file that was written
inode_set : (cs : List (List ℕ)) (k : ℕ) (bytes : List ℕ) → k < length cs → inode_in (slice_set cs k bytes) k ≡ Holds bytes
inode_set cs k bytes within = inode_is (slice_set cs k bytes) k (omega (arith, length-set cs k bytes)) ∙ ap Holds (get_or-set_same cs k bytes [] within)

-- a file that was written leaves the others
inode_still : (cs : List (List ℕ)) (k j : ℕ) (bytes : List ℕ) → j ≢ k → inode_in (slice_set cs k bytes) j ≡ inode_in cs j
inode_still cs k j bytes ne =
    ap (λ (n : ℕ). if nat_lt j n then Holds (get_or (slice_set cs k bytes) j []) else Missing) (length-set cs k bytes)
    ∙ ap (λ (xs : List ℕ). if nat_lt j (length cs) then Holds xs else Missing) (get_or-set_other cs k j bytes [] ne)

module _ (ns cs : List (List ℕ)) (printed name : List ℕ) where
  -- an added file changes no other
  adds_file : length ns ≡ length cs → OnlyFile (disk_of ns cs printed) (disk_of (ns ++ name ∷ []) (cs ++ [] ∷ []) printed) name
  adds_file lengths = record {
    entries = λ other ne. entry_other 0 ns name other ne;
    files = λ other ne. by_entry (entry_from 0 ns other) (λ k is. (entry_within 0 ns other k is).1);
    output = refl;
  }
    where
      by_entry : (e : Entry) → ((k : ℕ) → e ≡ Inode k → k < 0 + length ns) → told_at (disk_of (ns ++ name ∷ []) (cs ++ [] ∷ []) printed) e ≡ told_at (disk_of ns cs printed) e
      by_entry Unknown within = refl
      by_entry Absent within = refl
      by_entry (Inode k) within = let below : k < 0 + length ns = within k refl in inode_other cs [] k (omega arith)

  -- what is told of an added file
  added_file : length ns ≡ length cs → entry_from 0 ns name ≡ Absent → told_at (disk_of (ns ++ name ∷ []) (cs ++ [] ∷ []) printed) (entry_from 0 (ns ++ name ∷ []) name) ≡ Holds []
  added_file lengths gone =
      ap (told_at (disk_of (ns ++ name ∷ []) (cs ++ [] ∷ []) printed)) (entry_new 0 ns name gone)
      ∙ subst (λ k. inode_in (cs ++ [] ∷ []) k ≡ Holds []) (omega arith) (inode_new cs [])

  -- a file that was missing is made
  pub makes_file : length ns ≡ length cs → entry_from 0 ns name ≡ Absent → Makes (disk_of ns cs printed) (disk_of (ns ++ name ∷ []) (cs ++ [] ∷ []) printed) name
  makes_file lengths gone = record { stays = λ there. absurd (there gone); made = λ _. added_file lengths gone; only = adds_file lengths }

  -- a file that was missing is made empty
  pub makes_empty : length ns ≡ length cs → entry_from 0 ns name ≡ Absent → Empties (disk_of ns cs printed) (disk_of (ns ++ name ∷ []) (cs ++ [] ∷ []) printed) name
  makes_empty lengths gone = record {
    file = added_file lengths gone ∙ ap (λ (e : Entry). emptied (told_at (disk_of ns cs printed) e)) (sym gone);
    only = adds_file lengths;
  }

  -- a file that is there isn't made
  pub makes_nothing : entry_from 0 ns name ≢ Absent → Makes (disk_of ns cs printed) (disk_of ns cs printed) name
  makes_nothing there = record { stays = λ _. refl; made = λ gone. absurd (there gone); only = only_start (disk_of ns cs printed) name }

  -- a file that is there is emptied
  pub empties_file : (k : ℕ) → k < length cs → entry_from 0 ns name ≡ Inode k → Empties (disk_of ns cs printed) (disk_of ns (slice_set cs k []) printed) name
  empties_file k within is = record {
    file = ap (told_at (disk_of ns (slice_set cs k []) printed)) is ∙ inode_set cs k [] within
        ∙ sym (ap (λ (e : Entry). emptied (told_at (disk_of ns cs printed) e)) is ∙ ap emptied (inode_is cs k within));
    only = record {
      entries = λ other ne. refl;
      files = λ other ne. by_entry (entry_from 0 ns other) (λ also. ne (entry_apart 0 ns other name k also is));
      output = refl;
    };
  }
    where
      by_entry : (e : Entry) → (e ≡ Inode k → ⊥) → told_at (disk_of ns (slice_set cs k []) printed) e ≡ told_at (disk_of ns cs printed) e
      by_entry Unknown ne = refl
      by_entry Absent ne = refl
      by_entry (Inode j) ne = inode_still cs k j [] (λ same. ne (ap Inode same))

-- a piece is added to a file
pub adds_piece : (ns cs : List (List ℕ)) (printed : List ℕ) (k : ℕ) (piece : List ℕ) → k < length cs
    → Adds (disk_of ns cs printed) (disk_of ns (slice_set cs k (get_or cs k [] ++ piece)) printed) (Inode k) piece
adds_piece ns cs printed k piece within = record {
  entries = refl;
  file = inode_set cs k (get_or cs k [] ++ piece) within ∙ sym (ap (λ (t : Told). appended t piece) (inode_is cs k within));
  others = λ other ne. by_entry other ne;
  output = refl;
}
  where
    by_entry : (e : Entry) → e ≢ Inode k → told_at (disk_of ns (slice_set cs k (get_or cs k [] ++ piece)) printed) e ≡ told_at (disk_of ns cs printed) e
    by_entry Unknown ne = refl
    by_entry Absent ne = refl
    by_entry (Inode j) ne = inode_still cs k j (get_or cs k [] ++ piece) (λ same. ne (ap Inode same))

-- all that a machine in memory tells
abbrev pub disk_with : List MemoryFile → List ℕ → Disk
disk_with files printed = disk_of (names_of files) (contents_of files) printed

module _ (old mid new : List MemoryFile) (before printed name : List ℕ) where
  lengths : length (names_of old) ≡ length (contents_of old)
  lengths = length-map old (λ (f : MemoryFile). string_bytes f.name) ∙ sym (length-map old (λ (f : MemoryFile). f.bytes.items))

  -- a file that was missing is made
  pub made_in_memory : mid ≡ old → printed ≡ before → AddsFile mid new name → Absent ≡ entry_from 0 (names_of mid) name → Makes (disk_with old before) (disk_with new printed) name
  made_in_memory same still adds gone =
      let after : disk_with new printed ≡ disk_of (names_of old ++ name ∷ []) (contents_of old ++ [] ∷ []) before = cc (adds.names, adds.contents, same, still) in
      subst (λ (d : Disk). Makes (disk_with old before) d name) (sym after) (makes_file (names_of old) (contents_of old) before name lengths (subst (λ (files : List MemoryFile). entry_from 0 (names_of files) name ≡ Absent) same (sym gone)))

  -- a file that was missing is made empty
  pub made_empty_in_memory : mid ≡ old → printed ≡ before → AddsFile mid new name → Absent ≡ entry_from 0 (names_of mid) name → Empties (disk_with old before) (disk_with new printed) name
  made_empty_in_memory same still adds gone =
      let after : disk_with new printed ≡ disk_of (names_of old ++ name ∷ []) (contents_of old ++ [] ∷ []) before = cc (adds.names, adds.contents, same, still) in
      subst (λ (d : Disk). Empties (disk_with old before) d name) (sym after) (makes_empty (names_of old) (contents_of old) before name lengths (subst (λ (files : List MemoryFile). entry_from 0 (names_of files) name ≡ Absent) same (sym gone)))

  -- a file that is there is made empty
  pub emptied_in_memory : (k : ℕ) → k < length mid → mid ≡ old → printed ≡ before → Writes mid new k [] → Inode k ≡ entry_from 0 (names_of mid) name → Empties (disk_with old before) (disk_with new printed) name
  emptied_in_memory k within same still writes is =
      let after : disk_with new printed ≡ disk_of (names_of old) (slice_set (contents_of old) k []) before = cc (writes.names, writes.contents, same, still) in
      let fits : k < length (contents_of old) = omega (arith, length-map old (λ (f : MemoryFile). f.bytes.items), ap (length {A = MemoryFile}) same) in
      subst (λ (d : Disk). Empties (disk_with old before) d name) (sym after) (empties_file (names_of old) (contents_of old) before name k fits (subst (λ (files : List MemoryFile). entry_from 0 (names_of files) name ≡ Inode k) same (sym is)))

  -- a name leads to the file that was made under it
  pub leads_to_made : AddsFile mid new name → Absent ≡ entry_from 0 (names_of mid) name → (n : ℕ) → n ≡ length mid → entry_from 0 (names_of new) name ≡ Inode n
  leads_to_made adds gone n is =
      ap (λ (names : List (List ℕ)). entry_from 0 names name) adds.names ∙ entry_new 0 (names_of mid) name (sym gone)
      ∙ ap Inode (omega (arith, length-map mid (λ (f : MemoryFile). string_bytes f.name)))

  -- a file that was made is empty
  pub made_is_empty : AddsFile mid new name → (n : ℕ) → n ≡ length mid → get_or (contents_of new) n [] ≡ []
  made_is_empty adds n is =
      ap (λ (cs : List (List ℕ)). get_or cs n []) adds.contents
      ∙ subst (λ (k : ℕ). get_or (contents_of mid ++ [] ∷ []) k [] ≡ []) (omega (arith, length-map mid (λ (f : MemoryFile). f.bytes.items))) (get_or-append_seam (contents_of mid) [] [] [])

  -- a file that was made is open
  pub opened_in_memory : AddsFile mid new name → Absent ≡ entry_from 0 (names_of mid) name → (n : ℕ) → n ≡ length mid → Opens (entry_from 0 (names_of new) name) (Inode n) 0
  opened_in_memory adds gone n is =
      let leads : entry_from 0 (names_of new) name ≡ Inode n = leads_to_made adds gone n is in
      record { there = λ missing. inode_is_there n (sym leads ∙ missing); same = sym leads; start = refl }

  -- an emptied file holds nothing
  pub cleared_is_empty : (k : ℕ) → k < length mid → Writes mid new k [] → get_or (contents_of new) k [] ≡ []
  cleared_is_empty k within writes =
      ap (λ (cs : List (List ℕ)). get_or cs k []) writes.contents
      ∙ get_or-set_same (contents_of mid) k [] [] (omega (arith, length-map mid (λ (f : MemoryFile). f.bytes.items)))

  -- a file was emptied and then given these bytes
  pub put_in_memory : (k : ℕ) (bytes last : List ℕ) → last ≡ printed → k < length mid → Empties (disk_with old before) (disk_with mid printed) name → entry_from 0 (names_of mid) name ≡ Inode k
      → get_or (contents_of mid) k [] ≡ [] → Writes mid new k (get_or (contents_of mid) k [] ++ bytes) → Puts (disk_with old before) (disk_with new last) name bytes
  put_in_memory k bytes last same within empties leads empty writes =
      let fits : k < length (contents_of mid) = omega (arith, length-map mid (λ (f : MemoryFile). f.bytes.items)) in
      let after : disk_with new last ≡ disk_of (names_of mid) (slice_set (contents_of mid) k (get_or (contents_of mid) k [] ++ bytes)) printed = cc (writes.names, writes.contents, same) in
      let more : Adds (disk_with mid printed) (disk_with new last) (Inode k) bytes =
      subst (λ (d : Disk). Adds (disk_with mid printed) d (Inode k) bytes) (sym after) (adds_piece (names_of mid) (contents_of mid) printed k bytes fits) in
      record {
        file = ap (told_at (disk_with new last)) (ap (λ (f : List ℕ → Entry). f name) more.entries ∙ leads) ∙ more.file
            ∙ ap (λ (t : Told). appended t bytes) (inode_is (contents_of mid) k fits ∙ ap Holds empty);
        only = only_then (disk_with old before) (disk_with mid printed) (disk_with new last) name empties.only
            (adds_only (disk_with mid printed) (disk_with new last) name bytes (Inode k) (entry_apart 0 (names_of mid)) (sym leads) more);
      }
