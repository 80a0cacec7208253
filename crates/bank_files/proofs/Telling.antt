-- Laws of what is told of a file: it stays told or is told no more, and pieces that are appended join.
use Rattle.std.proofs.Common.{◌≡◌, ℕ, ◌+◌, List, [], ◌++◌, take, drop, refl, sym, ◌∙◌, ap, subst, inl, inr, ⊎_elim, append_assoc}
use Rattle.std.proofs.lemmas.List.{append-nil, take-append-drop}
use Rattle.std.proofs.Math.Seq.{take-add}
use Rattle.bank_files.specs.Told.{Told, Untold, Missing, Holds, appended, Tells, Finds, AppendsFront}

-- where nothing is told, nothing is told later
pub Tells-untold : (b : Told) → Tells Untold b → b ≡ Untold
Tells-untold b h = ⊎_elim (λ e. e) (λ e. e) h

-- one stretch after another
pub Tells-then : (a b c : Told) → Tells a b → Tells b c → Tells a c
Tells-then a b c h k = ⊎_elim (λ e. ⊎_elim (λ f. inl (f ∙ e)) (λ f. inr f) k) (λ e. inr (Tells-untold c (subst (λ t. Tells t c) e k))) h

-- two pieces, one after the other, are one piece
pub appended-appended : (a : Told) (x y : List ℕ) → appended (appended a x) y ≡ appended a (x ++ y)
appended-appended Untold x y = refl
appended-appended Missing x y = refl
appended-appended (Holds bytes) x y = ap Holds (append_assoc bytes x y)

-- a piece is appended to what is told, and then another
pub Tells-appended : (a b c : Told) (x y : List ℕ) → Tells (appended a x) b → Tells (appended b y) c → Tells (appended a (x ++ y)) c
Tells-appended a b c x y h k =
    ⊎_elim
    (λ e. subst (λ t. Tells t c) (ap (λ t. appended t y) e ∙ appended-appended a x y) k)
    (λ e. inr (Tells-untold c (subst (λ t. Tells (appended t y) c) e k)))
    h

-- a file that stays as it is told before a piece is appended to it
pub Tells-appended_after : (a b c : Told) (y : List ℕ) → Tells a b → Tells (appended b y) c → Tells (appended a y) c
Tells-appended_after a b c y h k =
    ⊎_elim
    (λ e. subst (λ t. Tells (appended t y) c) e k)
    (λ e. inr (Tells-untold c (subst (λ t. Tells (appended t y) c) e k)))
    h

-- a whole piece, and then a front of another
pub AppendsFront-after : (a b c : Told) (x y : List ℕ) → Tells (appended a x) b → AppendsFront b y c → AppendsFront a (x ++ y) c
AppendsFront-after a b c x y h k =
    ⊎_elim
    (λ same. inr (x, y, refl, Tells-then (appended a x) b c h same))
    (λ p. inr (x ++ p.0, p.1, append_assoc x p.0 p.1 ∙ ap (λ ys. x ++ ys) p.2, Tells-appended a b c x p.0 h p.3))
    k

-- a front of a piece is a front of what begins with that piece
pub AppendsFront-longer : (a c : Told) (x y : List ℕ) → AppendsFront a x c → AppendsFront a (x ++ y) c
AppendsFront-longer a c x y h =
    ⊎_elim
    (λ same. inl same)
    (λ p. inr (p.0, p.1 ++ y, sym (append_assoc p.0 p.1 y) ∙ ap (λ xs. xs ++ y) p.2, p.3))
    h

-- the whole piece is a front of it
pub AppendsFront-whole : (a c : Told) (x : List ℕ) → Tells (appended a x) c → AppendsFront a x c
AppendsFront-whole a c x h = inr (x, [], append-nil x, h)

-- a part of a piece, and then the next part
pub Tells-appended_part : (a b c : Told) (piece : List ℕ) (n m : ℕ) → Tells (appended a (take n piece)) b → Tells (appended b (take m (drop n piece))) c → Tells (appended a (take (n + m) piece)) c
Tells-appended_part a b c piece n m h k =
    subst (λ xs. Tells (appended a xs) c) (sym (take-add n m piece)) (Tells-appended a b c (take n piece) (take m (drop n piece)) h k)

-- a part of a piece, after which nothing more was appended
pub AppendsFront-part : (a b c : Told) (piece : List ℕ) (n : ℕ) → Tells (appended a (take n piece)) b → Tells b c → AppendsFront a piece c
AppendsFront-part a b c piece n h k = inr (take n piece, drop n piece, take-append-drop n piece, Tells-then (appended a (take n piece)) b c h k)

-- where the bytes are told, what is found holds of them
pub Finds-holds : (t : Told) (bytes : List ℕ) (P : List ℕ → Type 0) → t ≡ Holds bytes → Finds t P → P bytes
Finds-holds t bytes P e h = subst (λ s. Finds s P) e h

-- what follows from it is found too
pub Finds-weaker : (t : Told) (P Q : List ℕ → Type 0) → ((bytes : List ℕ) → t ≡ Holds bytes → P bytes → Q bytes) → Finds t P → Finds t Q
Finds-weaker Untold P Q f h = tt
Finds-weaker Missing P Q f h = h
Finds-weaker (Holds bytes) P Q f h = f bytes refl h
