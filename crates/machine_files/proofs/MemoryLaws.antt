-- What is told of files in memory after one of them was made, emptied or appended to.
use Rattle.std.proofs.Common.{◌≡◌, ◌<◌, ◌++◌, ℕ, List, [], length, get_or, slice_set, string_bytes, if◌then◌else◌, Result, Ok, Err, OnOk, OnErr, is_ok, sym, ◌∙◌, ap}
use Rattle.std.proofs.lemmas.List.{map-set, get_or-map}
use Rattle.std.proofs.Math.Seq.{map-set_same}
use Rattle.machine_files.specs.declared.store.MemoryFile.{MemoryFile}
use Rattle.machine_files.specs.Stored.{contents_of, Writes, SameFiles}

-- a file was replaced by one of the same name, which holds these bytes
pub writes : (files : List MemoryFile) (number : ℕ) (file old : MemoryFile) (bytes : List ℕ) → file.name ≡ (get_or files number old).name → file.bytes.items ≡ bytes
    → Writes files (slice_set files number file) number bytes
writes files number file old bytes name holds = record {
  names = map-set_same (λ (f : MemoryFile). string_bytes f.name) files number file old (ap string_bytes name);
  contents = map-set (λ (f : MemoryFile). f.bytes.items) files number file ∙ ap (λ (xs : List ℕ). slice_set (contents_of files) number xs) holds;
}

-- a file was replaced by one that has the same name and holds the same bytes
pub writes_same : (files : List MemoryFile) (number : ℕ) (file old : MemoryFile) → file.name ≡ (get_or files number old).name → file.bytes.items ≡ (get_or files number old).bytes.items
    → SameFiles files (slice_set files number file)
writes_same files number file old name holds = record {
  names = map-set_same (λ (f : MemoryFile). string_bytes f.name) files number file old (ap string_bytes name);
  contents = map-set_same (λ (f : MemoryFile). f.bytes.items) files number file old holds;
}

-- a file was extended by more bytes, if there was memory for them
pub extended : {E : Type 0} (files : List MemoryFile) (number : ℕ) (file old other : MemoryFile) (more : List ℕ) (result : Result (Unit {0}) E) → number < length files → old ≡ get_or files number other
    → file.name ≡ old.name → file.bytes.items ≡ (if is_ok result then old.bytes.items ++ more else old.bytes.items)
    → OnOk result (Writes files (slice_set files number file) number (get_or (contents_of files) number [] ++ more)) × OnErr result (SameFiles files (slice_set files number file))
extended files number file old other more (Ok u) within is name holds = (
  writes files number file other (get_or (contents_of files) number [] ++ more) (name ∙ ap (λ (f : MemoryFile). f.name) is)
      (holds ∙ ap (λ (f : MemoryFile). f.bytes.items ++ more) is ∙ ap (λ (xs : List ℕ). xs ++ more) (sym (get_or-map (λ (f : MemoryFile). f.bytes.items) files number other [] within))),
  tt,
)
extended files number file old other more (Err e) within is name holds =
    (tt, writes_same files number file other (name ∙ ap (λ (f : MemoryFile). f.name) is) (holds ∙ ap (λ (f : MemoryFile). f.bytes.items) is))
