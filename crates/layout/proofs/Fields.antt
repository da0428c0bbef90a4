-- What a table of fields that was written reads as: its own fields, and elsewhere what was there.
use mathlib.Core.Path.{◌≡◌, refl, ap, ◌∙◌}
use mathlib.Core.Bool.{Bool, true, ◌&&◌, ◌||◌}
use mathlib.Core.List.{List, [], ◌∷◌, ◌++◌}
use mathlib.Core.Logic.{inl, inr, ⊎_elim}
use Prim.Native.Nat.{ℕ, ◌+◌, ◌^◌, ◌<◌, ◌≤◌}
use native.Mathlib.Omega.{arith}
use native.Mathlib.Nat.{zero-add}
use lib.Dec.{leb}
use lib.ListN.{length, get_or, replicate, length-replicate, get_or-replicate}
use lib.Seq.{sets, length-sets}
use Rattle.std.proofs.lemmas.Bool.{or_cases, leb-true}
use Rattle.std.specs.Cmp.{first_so, second_so}
use Rattle.words.specs.Le.{le_at, put_le}
use Rattle.words.proofs.Sets.{Apart, outside, sets-in, sets-other}
use Rattle.words.proofs.Laws.{le_at-put_le, put_le-other, le_at-ext, length-put_le, put_le-over, put_le-swap}
use Rattle.layout.specs.Limits.{header_bytes}
use Rattle.layout.specs.Header.{magic, Field, field, put_fields, blank}

-- the v bytes from j on are apart from every field of the table
abbrev pub apart : ℕ → ℕ → List Field → Bool
apart j v [] = true
apart j v (field width at value ∷ fs) = (leb (j + v) at || leb (at + width) j) && apart j v fs

pub apart-field : (j v width at : ℕ) → (leb (j + v) at || leb (at + width) j) ≡ true → Apart at width j v
apart-field j v width at t =
    ⊎_elim (λ p. inl (leb-true (j + v) at p)) (λ p. inr (leb-true (at + width) j p)) (or_cases (leb (j + v) at) (leb (at + width) j) t)

-- the first field, and the others
apart-first : (j v width at value : ℕ) (fs : List Field) → apart j v (field width at value ∷ fs) ≡ true → Apart at width j v
apart-first j v width at value fs t = apart-field j v width at (first_so (leb (j + v) at || leb (at + width) j) (apart j v fs) t)

apart-rest : (j v width at value : ℕ) (fs : List Field) → apart j v (field width at value ∷ fs) ≡ true → apart j v fs ≡ true
apart-rest j v width at value fs t = second_so (leb (j + v) at || leb (at + width) j) (apart j v fs) t

pub length_fields : (fs : List Field) (s : List ℕ) → length (put_fields fs s) ≡ length s
length_fields [] s = refl
length_fields (field width at value ∷ fs) s = length_fields fs (put_le width s at value) ∙ length-put_le width s at value

-- a byte that is apart from every field is as it was
pub fields-other : (fs : List Field) (s : List ℕ) (j v k : ℕ) → apart j v fs ≡ true → k < v → get_or (put_fields fs s) (j + k) 0 ≡ get_or s (j + k) 0
fields-other [] s j v k t h = refl
fields-other (field width at value ∷ fs) s j v k t h =
    fields-other fs (put_le width s at value) j v k (apart-rest j v width at value fs t) h
    ∙ put_le-other width s at value (j + k) (outside at width j v k (apart-first j v width at value fs t) h)

-- a field is read, where the later ones are apart from it
pub field-read : (before : List Field) (width at value : ℕ) (behind : List Field) (s : List ℕ) → at + width ≤ length s → value < 256 ^ width → apart at width behind ≡ true
    → le_at width (put_fields (before ++ (field width at value ∷ behind)) s) at ≡ value
field-read [] width at value behind s h b t =
    le_at-ext width (put_fields behind (put_le width s at value)) (put_le width s at value) at at (λ k l. fields-other behind (put_le width s at value) at width k t l)
    ∙ le_at-put_le width s at value h b
field-read (field w i v ∷ before) width at value behind s h b t = field-read before width at value behind (put_le w s i v) (rw length-put_le h) b t

-- every field lies within the first n bytes
abbrev pub within : ℕ → List Field → Bool
within n [] = true
within n (field width at value ∷ fs) = leb (at + width) n && within n fs

-- a byte behind every field is as it was
pub fields-behind : (n : ℕ) (fs : List Field) (s : List ℕ) (k : ℕ) → within n fs ≡ true → n ≤ k → get_or (put_fields fs s) k 0 ≡ get_or s k 0
fields-behind n [] s k t h = refl
fields-behind n (field width at value ∷ fs) s k t h =
    fields-behind n fs (put_le width s at value) k (second_so (leb (at + width) n) (within n fs) t) h
    ∙ put_le-other width s at value k (inr (omega (arith, leb-true (at + width) n (first_so (leb (at + width) n) (within n fs) t))))

-- a store passes the fields that are apart from it
store-past : (width at value : ℕ) (fs : List Field) (n : ℕ) (s : List ℕ) → at + width ≤ n → n ≤ length s → within n fs ≡ true → apart at width fs ≡ true
    → put_le width (put_fields fs s) at value ≡ put_fields fs (put_le width s at value)
store-past width at value [] n s a h i t = refl
store-past width at value (field w j v ∷ fs) n s a h i t =
    store-past width at value fs n (put_le w s j v) a (rw length-put_le h) (second_so (leb (j + w) n) (within n fs) i) (apart-rest at width w j v fs t)
    ∙ ap (put_fields fs)
    (put_le-swap width w s at value j v
    (⊎_elim inr inl (apart-first at width w j v fs t))
    (omega arith)
    (omega (arith, leb-true (j + w) n (first_so (leb (j + w) n) (within n fs) i))))

-- a field written anew is the table with that field's new value
pub field-anew : (before : List Field) (width at old new : ℕ) (behind : List Field) (n : ℕ) (s : List ℕ) → at + width ≤ n → n ≤ length s → within n behind ≡ true → apart at width behind ≡ true
    → put_le width (put_fields (before ++ (field width at old ∷ behind)) s) at new ≡ put_fields (before ++ (field width at new ∷ behind)) s
field-anew [] width at old new behind n s a h i t =
    store-past width at new behind n (put_le width s at old) a (rw length-put_le h) i t
    ∙ ap (put_fields behind) (put_le-over width s at old new (omega arith))
field-anew (field w j v ∷ before) width at old new behind n s a h i t = field-anew before width at old new behind n (put_le w s j v) a (rw length-put_le h) i t

pub length-blank : (r : List ℕ) → length (blank r) ≡ length r
unfolding blank
length-blank r = length-sets (sets r 0 (replicate header_bytes 0)) 0 magic ∙ length-sets r 0 (replicate header_bytes 0)

-- between the magic and the header's end a blank header is zero
pub blank-zero : (r : List ℕ) (k : ℕ) → header_bytes ≤ length r → length magic ≤ k → k < header_bytes → get_or (blank r) k 0 ≡ 0
unfolding blank
blank-zero r k h a b =
    sets-other (sets r 0 (replicate header_bytes 0)) 0 magic k 0 (inr a)
    ∙ (rw zero-add at (sets-in r 0 (replicate header_bytes 0) k 0 (rw length-replicate b) (omega arith)))
    ∙ get_or-replicate header_bytes k 0 0 b

pub blank-magic : (r : List ℕ) (k : ℕ) → header_bytes ≤ length r → k < length magic → get_or (blank r) k 0 ≡ get_or magic k 0
unfolding blank
blank-magic r k h b = rw zero-add at (sets-in (sets r 0 (replicate header_bytes 0)) 0 magic k 0 b (rw length-sets (omega arith)))

-- past the header a blank header is what was there
pub blank-ring : (r : List ℕ) (k : ℕ) → header_bytes ≤ k → get_or (blank r) k 0 ≡ get_or r k 0
unfolding blank
blank-ring r k h =
    sets-other (sets r 0 (replicate header_bytes 0)) 0 magic k 0 (inr (omega arith))
    ∙ sets-other r 0 (replicate header_bytes 0) k 0 (inr (omega (arith, length-replicate {A = ℕ} header_bytes 0)))
