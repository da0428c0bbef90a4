-- A run of stores, `sets l i vs`: what it changes, what it leaves, and how two runs go together.
use Rattle.std.proofs.Common.{◌≡◌, ℕ, zero, suc, ◌+◌, ◌-◌, ◌<◌, ◌≤◌, ◌⊎◌, List, [], ◌∷◌, ◌++◌, length, get_or, take, drop, set, sym, refl, ap, ◌∙◌, inl, inr, ⊎_elim, append_assoc, add-zero, add-suc, suc-add, zero-add, arith, length-drop, length-set, length-take, length-take-le, get_or-drop, get_or-set_other, get_or-take, get_or-set_same, drop-set-lt, ext_get_or, drop_at}
use Rattle.std.proofs.lemmas.List.{drop-drop}
use native.Mathlib.Decide.{dec_le, dec_lt}
use native.Mathlib.Nat.{add-sub_cancel_left}
use borrow.Rule.Slice.PartMut.{put_mid, put_same}
use lib.Seq.{sets, sets-eq, take-append_seam, length-sets, take-set-le, take-set-lt, drop-set-add}
use Rattle.words.specs.Bytes.{part}

-- k lies before the n places from i on, or behind them
abbrev pub Outside : ℕ → ℕ → ℕ → Type 0
Outside k i n = (k < i) ⊎ (i + n ≤ k)

-- the n places from i on and the m places from j on are apart
abbrev pub Apart : ℕ → ℕ → ℕ → ℕ → Type 0
Apart i n j m = (j + m ≤ i) ⊎ (i + n ≤ j)

pub outside : (i n j m k : ℕ) → Apart i n j m → k < m → Outside (j + k) i n
outside i n j m k o h = ⊎_elim (λ b. inl (omega arith)) (λ b. inr (omega arith)) o

module _ {A : Type 0} where
  -- an element outside of the run is as it was
  pub sets-other : (l : List A) (i : ℕ) (vs : List A) (k : ℕ) (d : A) → Outside k i (length vs) → get_or (sets l i vs) k d ≡ get_or l k d
  sets-other l i [] k d o = refl
  sets-other l i (v ∷ vs) k d o =
      sets-other (set l i v) (suc i) vs k d (⊎_elim (λ h. inl (omega arith)) (λ h. inr (omega arith)) o)
      ∙ get_or-set_other l i k v d (λ e. ⊎_elim (λ h. omega arith) (λ h. omega arith) o)

  -- an element within it is the one stored
  pub sets-in : (l : List A) (i : ℕ) (vs : List A) (k : ℕ) (d : A) → k < length vs → i + k < length l → get_or (sets l i vs) (i + k) d ≡ get_or vs k d
  sets-in l i [] k d h b = absurd (omega arith)
  sets-in l i (v ∷ vs) zero d h b = rw add-zero (sets-other (set l i v) (suc i) vs i d (inl (omega arith)) ∙ get_or-set_same l i v d (omega arith))
  sets-in l i (v ∷ vs) (suc k) d h b = rw (add-suc, ← suc-add) (sets-in (set l i v) (suc i) vs k d (omega arith) (rw length-set (omega arith)))

  -- a run after a run that ends where it starts
  pub sets-append : (l : List A) (i : ℕ) (vs ws : List A) → sets l i (vs ++ ws) ≡ sets (sets l i vs) (i + length vs) ws
  sets-append l i [] ws = rw add-zero
  sets-append l i (v ∷ vs) ws = rw (add-suc, ← suc-add) (sets-append (set l i v) (suc i) vs ws)

  -- a list that has a run's elements in their places, and elsewhere those of another list, is that list after the run
  pub sets-ext : (d : A) (l m : List A) (i : ℕ) (vs : List A) → length m ≡ length l → i + length vs ≤ length l
      → ((k : ℕ) → k < length vs → get_or m (i + k) d ≡ get_or vs k d)
      → ((k : ℕ) → k < length l → Outside k i (length vs) → get_or m k d ≡ get_or l k d)
      → m ≡ sets l i vs
  sets-ext d l m i vs n b inner outer =
      ext_get_or d m (sets l i vs) (rw length-sets n) (λ k h. at k (rw n at h) (dec_lt k i) (dec_le (i + length vs) k))
    where
      at : (k : ℕ) → k < length l → Dec (k < i) → Dec (i + length vs ≤ k) → get_or m k d ≡ get_or (sets l i vs) k d
      at k h (yes p) q = outer k h (inl p) ∙ sym (sets-other l i vs k d (inl p))
      at k h (no p) (yes q) = outer k h (inr q) ∙ sym (sets-other l i vs k d (inr q))
      at k h (no p) (no q) =
          let e : k ≡ i + (k - i) = omega arith in
          rw e (inner (k - i) (omega arith) ∙ sym (sets-in l i vs (k - i) d (omega arith) (omega arith)))

  -- what a run leaves at a place goes by what was there
  sets_same : (l m : List A) (i : ℕ) (vs : List A) (k : ℕ) (d : A) → length l ≡ length m → k < length m → get_or l k d ≡ get_or m k d
      → get_or (sets l i vs) k d ≡ get_or (sets m i vs) k d
  sets_same l m i vs k d n h e = at (dec_lt k i) (dec_le (i + length vs) k)
    where
      at : Dec (k < i) → Dec (i + length vs ≤ k) → get_or (sets l i vs) k d ≡ get_or (sets m i vs) k d
      at (yes p) q = sets-other l i vs k d (inl p) ∙ e ∙ sym (sets-other m i vs k d (inl p))
      at (no p) (yes q) = sets-other l i vs k d (inr q) ∙ e ∙ sym (sets-other m i vs k d (inr q))
      at (no p) (no q) =
          let f : k ≡ i + (k - i) = omega arith in
          rw f (sets-in l i vs (k - i) d (omega arith) (omega arith) ∙ sym (sets-in m i vs (k - i) d (omega arith) (omega arith)))

  -- a run over a run of the same places
  pub sets_over : (d : A) (l : List A) (i : ℕ) (vs ws : List A) → length vs ≡ length ws → i + length ws ≤ length l → sets (sets l i vs) i ws ≡ sets l i ws
  sets_over d l i vs ws e b =
      sets-ext d l (sets (sets l i vs) i ws) i ws (length-sets (sets l i vs) i ws ∙ length-sets l i vs) b
      (λ k h. sets-in (sets l i vs) i ws k d h (rw length-sets (omega arith)))
      (λ k h o. sets-other (sets l i vs) i ws k d o ∙ sets-other l i vs k d (rw e o))

  -- runs that are apart, in either order
  pub sets-swap : (d : A) (l : List A) (i : ℕ) (vs : List A) (j : ℕ) (ws : List A) → Apart i (length vs) j (length ws)
      → i + length vs ≤ length l → j + length ws ≤ length l → sets (sets l j ws) i vs ≡ sets (sets l i vs) j ws
  sets-swap d l i vs j ws o a b =
      sym (sets-ext d (sets l j ws) (sets (sets l i vs) j ws) i vs
      (length-sets (sets l i vs) j ws ∙ length-sets l i vs ∙ sym (length-sets l j ws))
      (rw length-sets a)
      (λ k h. sets-other (sets l i vs) j ws (i + k) d (outside j (length ws) i (length vs) k (⊎_elim inr inl o) h) ∙ sets-in l i vs k d h (omega arith))
      (λ k h p. sets_same (sets l i vs) l j ws k d (length-sets l i vs) (rw length-sets at h) (sets-other l i vs k d p)))

  -- a run of stores within a part that is put back, as the borrow checker has a part that was lent
  pub sets-within : (l : List A) (i n j : ℕ) (vs : List A) → i + n ≤ length l → j + length vs ≤ n → put_mid i n l (sets (part l i n) j vs) ≡ sets l (i + j) vs
  sets-within l i n j [] b h = put_same i n l
  sets-within l i n j (v ∷ vs) b h =
      rw (take-set-le i l (i + j) v (omega arith), drop-set-add i l j v, take-set-lt n (drop i l) j v (omega arith), drop-set-lt n (drop i l) j v (omega arith), add-suc)
      at (sets-within (set l (i + j) v) i n (suc j) vs (rw length-set b) (omega arith))

  -- the part `&mut l[a..a + n]`, lent to a call that made a run of stores at its start
  pub sets-lent : (l : List A) (a n : ℕ) (vs : List A) → a + n ≤ length l → length vs ≤ n → put_mid a (a + n - a) l (sets (part l a (a + n - a)) 0 vs) ≡ sets l a vs
  sets-lent l a n vs b h = simp add-sub_cancel_left (rw add-zero at (sets-within l a n 0 vs b (rw zero-add h)))

  -- a part that was lent from a on, and comes back as vs
  pub put_mid-sets : (l : List A) (a n : ℕ) (vs : List A) → a + n ≤ length l → length vs ≡ n → put_mid a (a + n - a) l vs ≡ sets l a vs
  put_mid-sets l a n vs h e =
      let k : a + n - a ≡ length vs = omega arith in
      rw (k, drop-drop, ← append_assoc) (sym (sets-eq vs l a (omega arith)))

  -- a run of stores at the start
  pub sets-front : (l vs : List A) → length vs ≤ length l → sets l 0 vs ≡ vs ++ drop (length vs) l
  sets-front l vs h = rw zero-add at (sets-eq vs l 0 (rw zero-add h))

  pub length_part : (s : List A) (i n : ℕ) → i + n ≤ length s → length (part s i n) ≡ n
  length_part s i n h = simp (length-take, length-drop) (omega arith)

  pub get_d_part : (s : List A) (i n k : ℕ) (d : A) → k < n → get_or (part s i n) k d ≡ get_or s (i + k) d
  get_d_part s i n k d h = get_or-take n (drop i s) k d h ∙ get_or-drop i s k d

  -- parts of lists that agree there are one
  pub part_ext : (d : A) (s t : List A) (i j n : ℕ) → i + n ≤ length s → j + n ≤ length t → ((k : ℕ) → k < n → get_or s (i + k) d ≡ get_or t (j + k) d) → part s i n ≡ part t j n
  part_ext d s t i j n h g same =
      ext_get_or d (part s i n) (part t j n) (length_part s i n h ∙ sym (length_part t j n g))
      (λ k l.
      let q : k < n = rw (length_part s i n h) at l in
      get_d_part s i n k d q ∙ same k q ∙ sym (get_d_part t j n k d q))

  -- a part that lies apart from a run of stores is as it was
  pub part-sets-other : (d : A) (l : List A) (i : ℕ) (vs : List A) (j n : ℕ) → Apart i (length vs) j n → j + n ≤ length l → part (sets l i vs) j n ≡ part l j n
  part-sets-other d l i vs j n o h =
      part_ext d (sets l i vs) l j j n (rw length-sets h) h (λ k q. sets-other l i vs (j + k) d (outside i (length vs) j n k o q))

  -- the part that a run of stores wrote
  pub part-sets-same : (l : List A) (i : ℕ) (vs : List A) → i + length vs ≤ length l → part (sets l i vs) i (length vs) ≡ vs
  part-sets-same l i vs h =
      rw (sets-eq vs l i h, append_assoc, drop_at (take i l) (vs ++ drop (i + length vs) l) i (length-take-le i l (omega arith)))
      (take-append_seam vs (drop (i + length vs) l))

  -- a part of a part
  pub part_in : (d : A) (s : List A) (i n j m : ℕ) → i + n ≤ length s → j + m ≤ n → part (part s i n) j m ≡ part s (i + j) m
  part_in d s i n j m h b =
      part_ext d (part s i n) s j (i + j) m (rw (length_part s i n h) b) (omega arith)
      (λ k q. get_d_part s i n (j + k) d (omega arith) ∙ ap (λ (x : ℕ). get_or s x d) (omega arith))
