-- The laws of little-endian words, once over the width.
use Rattle.std.proofs.Common.{◌≡◌, ℕ, zero, suc, ◌+◌, ◌-◌, ◌*◌, ◌/◌, ◌%◌, ◌^◌, ◌<◌, ◌≤◌, List, [], ◌∷◌, ◌++◌, length, get_or, add-one, slice_index, sym, refl, ap, ◌∙◌, ap₂, append-nil, add-zero, add_assoc, add-suc, mod-lt, zero-lt-suc, mul_assoc, mul_comm, div-lt_iff_lt-mul, suc-add, one-mul, pow-suc, zero-add, mul-add, div-one, mul_left_comm, arith, get_or-append-add}
use native.Mathlib.Nat.{pow-zero, one-le-pow, div-div-eq-div-mul}
use lib.Arith.{mod-mul, digits_div, digits_mod}
use Rattle.std.specs.Int.{byte_at, bytes_low_first}
use borrow.Rule.Slice.PartMut.{put_mid}
use lib.Seq.{sets, length-sets}
use Rattle.words.specs.Bytes.{part}
use Rattle.words.specs.Le.{le_at, le_bytes, put_le}
use Rattle.words.proofs.Sets.{Outside, Apart, outside, sets-other, sets-in, sets-append, sets_over, sets-swap, get_d_part, put_mid-sets}

pub length-le_bytes : (w n : ℕ) → length (le_bytes w n) ≡ w
unfolding le_bytes
length-le_bytes zero n = refl
length-le_bytes (suc w) n = ap suc (length-le_bytes w (n / 256))

-- a word reads its w bytes and nothing else
pub le_at-ext : (w : ℕ) (s t : List ℕ) (i j : ℕ) → ((k : ℕ) → k < w → get_or s (i + k) 0 ≡ get_or t (j + k) 0) → le_at w s i ≡ le_at w t j
unfolding le_at
le_at-ext zero s t i j h = refl
le_at-ext (suc w) s t i j h =
    ap₂ (λ (x y : ℕ). x + 256 * y)
    (rw (add-zero, add-zero) at (h 0 (omega arith)))
    (le_at-ext w s t (suc i) (suc j) (λ k b. rw (suc-add, suc-add, ← add-suc, ← add-suc) (h (suc k) (omega arith))))

pub le_at-part : (w : ℕ) (s : List ℕ) (i n j : ℕ) → j + w ≤ n → le_at w (part s i n) j ≡ le_at w s (i + j)
le_at-part w s i n j h =
    le_at-ext w (part s i n) s j (i + j) (λ k b. get_d_part s i n (j + k) 0 (omega arith) ∙ ap (λ (m : ℕ). get_or s m 0) (omega arith))

-- the bound
pub le_at-lt : (w : ℕ) (s : List ℕ) (i : ℕ) → ((k : ℕ) → get_or s k 0 < 256) → le_at w s i < 256 ^ w
unfolding le_at
le_at-lt zero s i h = rw pow-zero (omega arith)
le_at-lt (suc w) s i h = rw pow-suc (omega (arith, h i, le_at-lt w s (suc i) h))

pub length-put_le : (w : ℕ) (s : List ℕ) (i n : ℕ) → length (put_le w s i n) ≡ length s
unfolding put_le
length-put_le w s i n = length-sets s i (le_bytes w n)

-- a byte outside of the store is as it was
pub put_le-other : (w : ℕ) (s : List ℕ) (i n k : ℕ) → Outside k i w → get_or (put_le w s i n) k 0 ≡ get_or s k 0
unfolding put_le
put_le-other w s i n k o = sets-other s i (le_bytes w n) k 0 (rw length-le_bytes o)

-- a word that lies apart from the store is as it was
pub le_at-put_le-other : (v w : ℕ) (s : List ℕ) (j i n : ℕ) → Apart i w j v → le_at v (put_le w s i n) j ≡ le_at v s j
le_at-put_le-other v w s j i n o =
    le_at-ext v (put_le w s i n) s j j (λ k b. put_le-other w s i n (j + k) (outside i w j v k o b))

div-lt : (w n : ℕ) → n < 256 ^ suc w → n / 256 < 256 ^ w
div-lt w n h = (div-lt_iff_lt-mul (zero-lt-suc 255)).1 (rw pow-suc at h)

-- the word in its own bytes, whatever follows them
pub le_at-le_bytes : (w n : ℕ) (t : List ℕ) → n < 256 ^ w → le_at w (le_bytes w n ++ t) 0 ≡ n
unfolding le_at le_bytes
le_at-le_bytes zero n t h = let z : n < 1 = rw pow-zero at h in omega arith
le_at-le_bytes (suc w) n t h =
    let e : le_at w (n % 256 ∷ (le_bytes w (n / 256) ++ t)) 1 ≡ le_at w (le_bytes w (n / 256) ++ t) 0 =
    le_at-ext w (n % 256 ∷ (le_bytes w (n / 256) ++ t)) (le_bytes w (n / 256) ++ t) 1 0 (λ k l. rw (suc-add, zero-add)) in
    rw (e, le_at-le_bytes w (n / 256) t (div-lt w n h)) (omega arith)

pub le_at-append : (w : ℕ) (s t : List ℕ) (j : ℕ) → le_at w (s ++ t) (length s + j) ≡ le_at w t j
le_at-append w s t j = le_at-ext w (s ++ t) t (length s + j) j (λ k l. rw add_assoc (get_or-append-add s t (j + k) 0))

-- a word among what a run of stores wrote
pub le_at-sets : (w : ℕ) (s : List ℕ) (i : ℕ) (vs : List ℕ) (j : ℕ) → j + w ≤ length vs → i + length vs ≤ length s → le_at w (sets s i vs) (i + j) ≡ le_at w vs j
le_at-sets w s i vs j h b =
    le_at-ext w (sets s i vs) vs (i + j) j (λ k l. rw add_assoc (sets-in s i vs (j + k) 0 (omega arith) (omega arith)))

-- what was stored is loaded
pub le_at-put_le : (w : ℕ) (s : List ℕ) (i n : ℕ) → i + w ≤ length s → n < 256 ^ w → le_at w (put_le w s i n) i ≡ n
unfolding put_le
le_at-put_le w s i n b h =
    let e : le_at w (le_bytes w n) 0 ≡ n = (le_at-ext w (le_bytes w n) (le_bytes w n ++ []) 0 0 (λ k l. rw append-nil)) ∙ le_at-le_bytes w n [] h in
    rw add-zero at (le_at-sets w s i (le_bytes w n) 0 (rw (zero-add, length-le_bytes) (omega arith)) (rw length-le_bytes b)) ∙ e

-- a store over a store of the same word
pub put_le-over : (w : ℕ) (s : List ℕ) (i m n : ℕ) → i + w ≤ length s → put_le w (put_le w s i m) i n ≡ put_le w s i n
unfolding put_le
put_le-over w s i m n b = sets_over 0 s i (le_bytes w m) (le_bytes w n) (length-le_bytes w m ∙ sym (length-le_bytes w n)) (rw length-le_bytes b)

-- stores of words that are apart, in either order
pub put_le-swap : (v w : ℕ) (s : List ℕ) (i m j n : ℕ) → Apart i v j w → i + v ≤ length s → j + w ≤ length s → put_le v (put_le w s j n) i m ≡ put_le w (put_le v s i m) j n
unfolding put_le
put_le-swap v w s i m j n o a b =
    sets-swap 0 s i (le_bytes v m) j (le_bytes w n) (rw (length-le_bytes, length-le_bytes) o) (rw length-le_bytes a) (rw length-le_bytes b)

byte_pow : (w : ℕ) → 0 < 256 ^ w
byte_pow w = one-le-pow w 256 (zero-lt-suc 255)

-- the low w bytes are those of what is left below 256 ^ w
le_bytes-mod : (w n : ℕ) → le_bytes w (n % 256 ^ w) ≡ le_bytes w n
unfolding le_bytes
le_bytes-mod zero n = refl
le_bytes-mod (suc w) n =
    let e : n % 256 ^ suc w ≡ (n / 256 % 256 ^ w) * 256 + n % 256 = rw pow-suc (mod-mul n (byte_pow w) (zero-lt-suc 255)) in
    let r : n % 256 < 256 = mod-lt n (zero-lt-suc 255) in
    rw (e, digits_mod (n / 256 % 256 ^ w) r, digits_div (n / 256 % 256 ^ w) r, le_bytes-mod w (n / 256))

le_bytes-split : (a b n : ℕ) → le_bytes (a + b) n ≡ le_bytes a n ++ le_bytes b (n / 256 ^ a)
unfolding le_bytes
le_bytes-split zero b n = rw (zero-add, pow-zero, div-one)
le_bytes-split (suc a) b n = rw (suc-add, pow-suc, mul_comm, ← div-div-eq-div-mul) (ap (λ (t : List ℕ). n % 256 ∷ t) (le_bytes-split a b (n / 256)))

-- a word stored in two parts
pub put_le-split : (a b : ℕ) (s : List ℕ) (i n : ℕ) → put_le b (put_le a s i (n % 256 ^ a)) (i + a) (n / 256 ^ a) ≡ put_le (a + b) s i n
unfolding put_le
put_le-split a b s i n =
    sym (rw (le_bytes-split a b n, sets-append s i (le_bytes a n) (le_bytes b (n / 256 ^ a)), length-le_bytes, le_bytes-mod))

-- a word loaded in two parts
pub le_at-split : (a b : ℕ) (s : List ℕ) (i : ℕ) → le_at a s i + 256 ^ a * le_at b s (i + a) ≡ le_at (a + b) s i
unfolding le_at
le_at-split zero b s i = rw (pow-zero, one-mul, zero-add, add-zero, zero-add)
le_at-split (suc a) b s i =
    rw (suc-add, pow-suc, add-suc, ← suc-add, ← le_at-split a b s (suc i), mul-add, mul_comm, mul_assoc, add_assoc)
    (omega (arith, mul_left_comm (256 ^ a) 256 (le_at b s (suc i + a))))

-- a word byte by byte, each from its place
pub le_at-two : (s : List ℕ) (i : ℕ) → le_at 2 s i ≡ slice_index s i + 256 * slice_index s (i + 1)
unfolding le_at
le_at-two s i = rw (← add-one i) (omega arith)

pub le_at-four : (s : List ℕ) (i : ℕ)
    → le_at 4 s i ≡ (slice_index s i + 256 * slice_index s (i + 1)) + 65536 * (slice_index s (i + 2) + 256 * slice_index s (i + 3))
le_at-four s i =
    let e : (i + 2) + 1 ≡ i + 3 = omega arith in
    sym (le_at-split 2 2 s i) ∙ rw (le_at-two s i, le_at-two s (i + 2), e)

pub le_at-eight : (s : List ℕ) (i : ℕ)
    → le_at 8 s i ≡ (slice_index s i + 256 * slice_index s (i + 1)) + 65536 * (slice_index s (i + 2) + 256 * slice_index s (i + 3))
    + 4294967296 * ((slice_index s (i + 4) + 256 * slice_index s (i + 5)) + 65536 * (slice_index s (i + 6) + 256 * slice_index s (i + 7)))
le_at-eight s i =
    let e : (i + 4) + 1 ≡ i + 5 = omega arith in
    let f : (i + 4) + 2 ≡ i + 6 = omega arith in
    let g : (i + 4) + 3 ≡ i + 7 = omega arith in
    sym (le_at-split 4 4 s i) ∙ rw (le_at-four s i, le_at-four s (i + 4), e, f, g)

-- the bytes of a word, as the library writes them
byte-at : (i n : ℕ) → byte_at i n ≡ n / 256 ^ i % 256
byte-at zero n = rw (pow-zero, div-one)
byte-at (suc i) n = refl

bytes-from : (i w n : ℕ) → bytes_low_first i w n ≡ le_bytes w (n / 256 ^ i)
unfolding le_bytes
bytes-from i zero n = refl
bytes-from i (suc w) n =
    let e : n / 256 ^ i / 256 ≡ n / 256 ^ suc i = rw pow-suc (div-div-eq-div-mul n (256 ^ i) 256) in
    rw (byte-at i n, e, bytes-from (suc i) w n)

pub bytes-of : (w n : ℕ) → bytes_low_first 0 w n ≡ le_bytes w n
bytes-of w n = bytes-from 0 w n ∙ rw (pow-zero, div-one)

-- a run of bytes lent from i on, with a word written over it
pub put_le-lent : (w : ℕ) (s : List ℕ) (i n : ℕ) (t : List ℕ) → i + w ≤ length s → t ≡ bytes_low_first 0 w n → put_mid i (i + w - i) s t ≡ put_le w s i n
unfolding put_le
put_le-lent w s i n t b e =
    rw (e, bytes-of w n) (put_mid-sets s i w (le_bytes w n) b (length-le_bytes w n))
