-- What is told of a receiver and of a slot, put together from its parts.
use Rattle.std.proofs.Common.{◌≡◌, ℕ, ◌+◌, ◌*◌, ◌<◌, ◌==◌, Bool, true, false, if◌then◌else◌, List, [], ◌∷◌, length, map, get_or, Option, Some, None, refl, sym, ap, ◌∙◌, arith}
use Rattle.std.proofs.lemmas.List.{get_or_default}
use Rattle.signal_base.specs.declared.station.Station.{Station}
use Rattle.signal_base.specs.declared.station.Station.TheVariants.{Dcf77, Msf, Wwvb, Jjy}
use Rattle.signal_base.specs.declared.tuning.Tuning.{Tuning}
use Rattle.signal_base.specs.Number.{number_of}
use Rattle.definitions.specs.heard.Costs.{second_cost, sum_below}
use Rattle.definitions.specs.heard.Logs.{Records}
use Rattle.definitions.specs.heard.Receivers.{Receiver}
use Rattle.definitions.specs.sequences.Walks.{place_at}
use Rattle.formats.specs.declared.heard.ReceiverHeard.{ReceiverHeard}
use Rattle.formats.specs.declared.heard.SlotHeard.{SlotHeard}
use Rattle.formats.specs.Heard.{Hearing, Numbered, best_symbol, cost_of, costs_of, its_receiver, receiver_heard, receiver_sum, sent_in, slot_begin_at, slot_of, unknown_tenths}
use Rattle.symbol_cost.specs.Rows.{heard}
use Rattle.heard.specs.Kept.{heard_among}

-- stations are told apart by their numbers
pub by_number : (s t : Station) → number_of s ≡ number_of t → s ≡ t
by_number Dcf77 Dcf77 e = refl
by_number Dcf77 Msf e = absurd (omega (arith, e))
by_number Dcf77 Wwvb e = absurd (omega (arith, e))
by_number Dcf77 Jjy e = absurd (omega (arith, e))
by_number Msf Dcf77 e = absurd (omega (arith, e))
by_number Msf Msf e = refl
by_number Msf Wwvb e = absurd (omega (arith, e))
by_number Msf Jjy e = absurd (omega (arith, e))
by_number Wwvb Dcf77 e = absurd (omega (arith, e))
by_number Wwvb Msf e = absurd (omega (arith, e))
by_number Wwvb Wwvb e = refl
by_number Wwvb Jjy e = absurd (omega (arith, e))
by_number Jjy Dcf77 e = absurd (omega (arith, e))
by_number Jjy Msf e = absurd (omega (arith, e))
by_number Jjy Wwvb e = absurd (omega (arith, e))
by_number Jjy Jjy e = refl

-- an item that was read, at a place that was read
pub item_at : {X : Type 0} (xs : List X) (p q : ℕ) (x d : X) → x ≡ get_or xs p x → p ≡ q → p < length xs → x ≡ get_or xs q d
item_at xs p q x d is same within = is ∙ get_or_default xs p x d within ∙ ap (λ n. get_or xs n d) same

-- a receiver in a slot
module _ (h : Hearing) (k i : ℕ) (r : Receiver) where
  made : Station → Tuning → Records → ℕ → Option ℕ → ReceiverHeard
  made station tuning log from sent =
      record { number = i + 1; unknown = unknown_tenths log from; cost = cost_of (second_cost h.table (heard tuning log) station from) sent }

  by_parts : (F : Station → Tuning → Records → ℕ → Option ℕ → ReceiverHeard) (s s' : Station) (t t' : Tuning) (l l' : Records) (m m' : ℕ) (o o' : Option ℕ)
      → s ≡ s' → t ≡ t' → l ≡ l' → m ≡ m' → o ≡ o' → F s t l m o ≡ F s' t' l' m' o'
  by_parts F s s' t t' l l' m m' o o' a b c d e = cc

  pub receiver_is : (station : Station) (tuning : Tuning) (log : Records) (from : ℕ) (sent : Option ℕ) (x : ReceiverHeard)
      → x ≡ record { number = i + 1; unknown = unknown_tenths log from; cost = cost_of (second_cost h.table (heard tuning log) station from) sent }
      → station ≡ r.station → tuning ≡ r.heard.tuning → log ≡ r.heard.log → from ≡ h.window.start + h.window.phase + tuning.delay + 1000 * k → sent ≡ sent_in h k r.station
      → x ≡ receiver_heard h k (i + 1, r)
  unfolding made
  receiver_is station tuning log from sent x is a b c d e =
      is ∙ by_parts made station r.station tuning r.heard.tuning log r.heard.log from (slot_begin_at h r k) sent (sent_in h k r.station) a b c
      (d ∙ ap (λ (t : Tuning). h.window.start + h.window.phase + t.delay + 1000 * k) b) e

-- a receiver over all slots
pub sum_is : (h : Hearing) (r : Numbered) (n unknown cost : ℕ) → n ≡ h.window.seconds
    → unknown ≡ sum_below n (λ k. (receiver_heard h k r).unknown) → cost ≡ sum_below n (λ k. (receiver_heard h k r).cost)
    → ◌≡◌ {A = ReceiverHeard} (record { number = r.0; unknown = unknown; cost = cost }) (receiver_sum h r)
sum_is h r n unknown cost end u c =
    by_two unknown (sum_below h.window.seconds (λ k. (receiver_heard h k r).unknown)) cost (sum_below h.window.seconds (λ k. (receiver_heard h k r).cost))
    (u ∙ ap (λ m. sum_below m (λ k. (receiver_heard h k r).unknown)) end) (c ∙ ap (λ m. sum_below m (λ k. (receiver_heard h k r).cost)) end)
  where
    by_two : (u v c d : ℕ) → u ≡ v → c ≡ d → ◌≡◌ {A = ReceiverHeard} (record { number = r.0; unknown = u; cost = c }) (record { number = r.0; unknown = v; cost = d })
    by_two u v c d e f = cc

-- a receiver that is one of a station's, and one that isn't
pub told_among : (h : Hearing) (k : ℕ) (station : Station) (r : Numbered) → (number_of (its_receiver r).station == number_of station) ≡ true
    → receiver_heard h k r ∷ [] ≡ heard_among h k station (r ∷ [])
told_among h k station r e = ap (λ (b : Bool). map (receiver_heard h k) (if b then r ∷ [] else [])) (sym e)

pub passed_over : (h : Hearing) (k : ℕ) (station : Station) (r : Numbered) → (number_of (its_receiver r).station == number_of station) ≡ false
    → [] ≡ heard_among h k station (r ∷ [])
passed_over h k station r e = ap (λ (b : Bool). map (receiver_heard h k) (if b then r ∷ [] else [])) (sym e)

-- costs that agree for the symbols of a station
pub same_cost_of : (n : ℕ) (f g : ℕ → ℕ) (o : Option ℕ) → ((x : ℕ) → o ≡ Some x → x < n) → ((x : ℕ) → x < n → f x ≡ g x) → cost_of f o ≡ cost_of g o
same_cost_of n f g None known same = refl
same_cost_of n f g (Some x) known same = same x (known x refl)

-- a slot and a station
module _ (h : Hearing) (k : ℕ) (station : Station) where
  slot_parts : (F : ℕ × ℕ → Option ℕ → ℕ → ℕ → ℕ → SlotHeard) (p p' : ℕ × ℕ) (o o' : Option ℕ) (a a' b b' c c' : ℕ)
      → p ≡ p' → o ≡ o' → a ≡ a' → b ≡ b' → c ≡ c' → F p o a b c ≡ F p' o' a' b' c'
  slot_parts F p p' o o' a a' b b' c c' d e f g i = cc

  slot_made : ℕ × ℕ → Option ℕ → ℕ → ℕ → ℕ → SlotHeard
  slot_made place sent cost best best_cost =
      record { slot = k; minute = place.0; second = place.1; station = station; sent = sent; cost = cost; best = best; best_cost = best_cost }

  pub slot_is : (place : ℕ × ℕ) (sent : Option ℕ) (cost best best_cost : ℕ) → place ≡ place_at h.sequence k → sent ≡ sent_in h k station
      → cost ≡ cost_of (costs_of h station k) sent → best ≡ best_symbol station (costs_of h station k) → best_cost ≡ costs_of h station k best
      → ◌≡◌ {A = SlotHeard} (record { slot = k; minute = place.0; second = place.1; station = station; sent = sent; cost = cost; best = best; best_cost = best_cost }) (slot_of h k station)
  unfolding slot_made
  slot_is place sent cost best best_cost a b c d e =
      slot_parts slot_made place (place_at h.sequence k) sent (sent_in h k station) cost (cost_of (costs_of h station k) (sent_in h k station)) best
      (best_symbol station (costs_of h station k)) best_cost (costs_of h station k (best_symbol station (costs_of h station k)))
      a b (c ∙ ap (cost_of (costs_of h station k)) b) d (e ∙ ap (costs_of h station k) d)
