-- Unions over ranges: joined, moved, and of parts that are laid over one another.
use Rattle.std.proofs.Common.{◌≡◌, ℕ, ◌+◌, ◌-◌, ◌<◌, ◌≤◌, ◌⊎◌, inl, inr, true, length, get_or, replicate, bit_or, sym, ap, ◌∙◌, arith, eqb-true, eq-eqb}
use Rattle.std.proofs.lemmas.Bool.{cases_eq, cases_lt}
use Rattle.std.proofs.lemmas.List.{get_or-replicate, get_or_past, length-replicate}
use Rattle.std.proofs.lemmas.Nat.{or_lt}
use Rattle.std.proofs.lemmas.Nat.Bits.{bit_at_or, bit_at-lt, bit_at-zero}
use Rattle.std.specs.Int.{bit_at}
use Rattle.signal_base.specs.Mask.{has_bit}
use Rattle.definitions.proofs.UnionLaws.{within_le}
use Rattle.minute_parts.specs.Unions.{IsUnionOf}

pub has_or : (a b x : ℕ) → (has_bit a x ≡ true) ⊎ (has_bit b x ≡ true) → has_bit (bit_or a b) x ≡ true
has_or a b x (inl here) = eq-eqb _ 1 (omega (arith, eqb-true (bit_at a x) 1 here, bit_at_or a b x, bit_at-lt b x))
has_or a b x (inr here) = eq-eqb _ 1 (omega (arith, eqb-true (bit_at b x) 1 here, bit_at_or a b x, bit_at-lt a x))

pub of_or : (a b x : ℕ) → has_bit (bit_or a b) x ≡ true → (has_bit a x ≡ true) ⊎ (has_bit b x ≡ true)
of_or a b x has = elim (cases_eq (bit_at a x) 1) [
  | inl one ↦ inl (eq-eqb _ 1 one)
  | inr other ↦ inr (eq-eqb _ 1 (omega (arith, eqb-true _ 1 has, bit_at_or a b x, bit_at-lt a x, bit_at-lt b x, other)))
]

pub none_has : (x : ℕ) → has_bit 0 x ≡ true → ⊥
none_has x has = omega (arith, eqb-true (bit_at 0 x) 1 has, bit_at-zero x)

-- there is one union
pub one_union : (f : ℕ → ℕ) (lo hi m n : ℕ) → IsUnionOf f lo hi m → IsUnionOf f lo hi n → m ≡ n
one_union f lo hi m n a b =
    let le = within_le m n a.byte b.byte (λ x has. b.each x (a.only x has)) in
    let ge = within_le n m b.byte a.byte (λ x has. a.each x (b.only x has)) in
    omega (arith, le, ge)

-- of no minutes, and of one
pub union_none : (f : ℕ → ℕ) (lo : ℕ) → IsUnionOf f lo lo 0
union_none f lo = record {
  byte = omega arith;
  each = λ x h. absurd (omega (arith, h.1, h.2));
  only = λ x has. absurd (none_has x has);
}

pub union_one : (f : ℕ → ℕ) (lo : ℕ) → f lo < 256 → IsUnionOf f lo (lo + 1) (f lo)
union_one f lo byte = record {
  byte = byte;
  each = λ x h.
      let here : h.0 ≡ lo = omega (arith, h.1, h.2) in
      ap (λ t. has_bit (f t) x) (sym here) ∙ h.3;
  only = λ x has. (lo, omega arith, omega arith, has);
}

-- of two ranges that leave no gap
pub union_joined : (f : ℕ → ℕ) (a b c d x y : ℕ) → a ≤ c → c ≤ b → b ≤ d → IsUnionOf f a b x → IsUnionOf f c d y → IsUnionOf f a d (bit_or x y)
union_joined f a b c d x y first gap last u v = record {
  byte = or_lt 8 x y u.byte v.byte;
  each = λ i h. elim (cases_lt h.0 b) [
    | inl early ↦ has_or x y i (inl (u.each i (h.0, h.1, early, h.3)))
    | inr late ↦ has_or x y i (inr (v.each i (h.0, omega (arith, late), h.2, h.3)))
  ];
  only = λ i has. elim (of_or x y i has) [
    | inl here ↦ (let h = u.only i here in (h.0, h.1, omega (arith, h.2), h.3))
    | inr here ↦ (let h = v.only i here in (h.0, omega (arith, h.1), h.2, h.3))
  ];
}

-- of n sets that stand elsewhere in the same order
pub union_moved : (f g : ℕ → ℕ) (lo to n set : ℕ) → ((i : ℕ) → i < n → f (lo + i) ≡ g (to + i)) → IsUnionOf f lo (lo + n) set → IsUnionOf g to (to + n) set
union_moved f g lo to n set same u = record {
  byte = u.byte;
  each = λ x h.
      let i : ℕ = h.0 - to in
      let there : h.0 ≡ to + i = omega (arith, h.1) in
      u.each x (lo + i, omega arith, omega (arith, h.1, h.2), ap (λ m. has_bit m x) (same i (omega (arith, h.1, h.2)) ∙ ap g (sym there)) ∙ h.3);
  only = λ x has.
      let h = u.only x has in
      let i : ℕ = h.0 - lo in
      let there : lo + i ≡ h.0 = omega (arith, h.1) in
      (to + i, omega arith, omega (arith, h.1, h.2), ap (λ m. has_bit m x) (sym (same i (omega (arith, h.1, h.2))) ∙ ap f there) ∙ h.3);
}

pub union_same : (f g : ℕ → ℕ) (lo hi set : ℕ) → ((t : ℕ) → lo ≤ t → t < hi → f t ≡ g t) → IsUnionOf f lo hi set → IsUnionOf g lo hi set
union_same f g lo hi set same u = record {
  byte = u.byte;
  each = λ x h. u.each x (h.0, h.1, h.2, ap (λ m. has_bit m x) (same h.0 h.1 h.2) ∙ h.3);
  only = λ x has. let h = u.only x has in (h.0, h.1, h.2, ap (λ m. has_bit m x) (sym (same h.0 h.1 h.2)) ∙ h.3);
}

-- unions grow with their range
pub union_between : (f : ℕ → ℕ) (a b lo hi c d set : ℕ) → c ≤ lo → lo ≤ a → b ≤ hi → hi ≤ d → IsUnionOf f a b set → IsUnionOf f c d set → IsUnionOf f lo hi set
union_between f a b lo hi c d set outer inner ends last u v = record {
  byte = u.byte;
  each = λ x h. v.each x (h.0, omega (arith, h.1), omega (arith, h.2), h.3);
  only = λ x has. let h = u.only x has in (h.0, omega (arith, h.1), omega (arith, h.2), h.3);
}

-- one number again and again, and 0 after it
repeated : (n v s : ℕ) → get_or (replicate n v) s 0 ≤ v
repeated n v s =
    let long : length (replicate n v) ≡ n = length-replicate n v in
    elim (cases_lt s n) [
      | inl lt ↦ omega (arith, get_or-replicate n s v 0 lt)
      | inr le ↦ omega (arith, get_or_past (replicate n v) s 0 (omega arith))
    ]

-- a part that tells nothing
pub nothing_told : (n s : ℕ) → ◌≡◌ {A = ℕ} (get_or (replicate n 0) s 0) 0
nothing_told n s = omega (arith, repeated n 0 s)
