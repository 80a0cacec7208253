-- A text in pieces: what is held back follows what is written, and a text is written whole, or up to a fault.
use Rattle.std.proofs.Common.{◌≡◌, ◌≢◌, ℕ, List, [], ◌++◌, Ok, Err, refl, sym, ap, ◌∙◌, subst, inl, inr, append_assoc}
use Rattle.std.proofs.lemmas.List.{append-nil}
use Rattle.bank_files.specs.Told.{Told, Untold, Missing, Holds, Tells, appended, emptied}
use Rattle.bank_files.specs.Seen.{Seen, Writes}
use Rattle.bank_files.proofs.Chaining.{HasFault-from, OnlyWrites-start, OnlyWrites-then, SameCounts-start, SameCounts-then}
use Rattle.bank_files.proofs.Telling.{AppendsFront-after, AppendsFront-longer, Tells-appended}
use Rattle.certificate_texts.specs.Sending.{IsSent, WritesFront, WritesWhole}

-- no byte more is at the end of a file that is there
pub nothing_more : (t : Told) → t ≢ Missing → Tells (appended t []) t
nothing_more Untold there = inl refl
nothing_more Missing there = absurd (there refl)
nothing_more (Holds bytes) there = inl (ap Holds (sym (append-nil bytes)))

module _ (name : List ℕ) where
  -- before the first byte
  pub nothing_sent : (a : Seen) → a.told name ≢ Missing → IsSent name a a [] []
  nothing_sent a there = record {
    sent = [];
    writes = record { whole = nothing_more (a.told name) there; same_counts = SameCounts-start a; only = OnlyWrites-start a name };
    joined = refl;
  }

  -- more is held back
  pub more_held : (a b : Seen) (held more text : List ℕ) → IsSent name a b held text → IsSent name a b (held ++ more) (text ++ more)
  more_held a b held more text is = record {
    sent = is.sent;
    writes = is.writes;
    joined = sym (append_assoc is.sent held more) ∙ ap (λ xs. xs ++ more) is.joined;
  }

  module _ {E : Type 0} (a b c : Seen) (held text : List ℕ) (is : IsSent name a b held text) where
    -- what was held back is written too
    pub all_written : Writes {E = E} name b c held (Ok tt) → WritesWhole name a c text
    all_written w =
        subst (λ (x : List ℕ). WritesWhole name a c x) is.joined
        (record {
          whole = Tells-appended (a.told name) (b.told name) (c.told name) is.sent held is.writes.whole w.whole;
          same_counts = SameCounts-then a b c is.writes.same_counts w.same_counts;
          only = OnlyWrites-then a b c name is.writes.only w.only;
        })

    pub none_held : Writes {E = E} name b c held (Ok tt) → IsSent name a c [] text
    none_held w = record { sent = text; writes = all_written w; joined = append-nil text }

    -- or a front of it
    pub cut_off : (e : E) → Writes {E = E} name b c held (Err e) → WritesFront name a c text
    cut_off e w =
        subst (λ (x : List ℕ). WritesFront name a c x) is.joined
        (record {
          front = AppendsFront-after (a.told name) (b.told name) (c.told name) is.sent held is.writes.whole w.front;
          cause = HasFault-from (a.write_faults name) (b.write_faults name) (c.write_faults name) (is.writes.only.counts.of_writes name) w.cause;
          only = OnlyWrites-then a b c name is.writes.only w.only;
        })

  -- a front of a text is one of a longer text
  pub front_of_more : (a b : Seen) (x y : List ℕ) → WritesFront name a b x → WritesFront name a b (x ++ y)
  front_of_more a b x y is =
      record { front = AppendsFront-longer (a.told name) (b.told name) x y is.front; cause = is.cause; only = is.only }

-- a file that was made anew is there
pub is_there : (t u : Told) → Tells (emptied t) u → u ≢ Missing
is_there Untold u (inl e) = λ m. not_untold (sym e ∙ m)
  where
    not_untold : Untold ≡ Missing → ⊥
    not_untold h = absurd cc
is_there Missing u (inl e) = λ m. not_held (sym e ∙ m)
  where
    not_held : Holds [] ≡ Missing → ⊥
    not_held h = absurd cc
is_there (Holds bytes) u (inl e) = λ m. not_held (sym e ∙ m)
  where
    not_held : Holds [] ≡ Missing → ⊥
    not_held h = absurd cc
is_there t u (inr e) = λ m. not_untold (sym e ∙ m)
  where
    not_untold : Untold ≡ Missing → ⊥
    not_untold h = absurd cc
