-- No wake is lost: while a party waits with cause, the other is on its way to ring it. Numbers and phases alone.
use mathlib.Core.Path.{◌≡◌, refl}
use mathlib.Core.Bool.{Bool, true, false, ◌&&◌, false≢true}
use Prim.Native.Nat.{ℕ, zero, suc, ◌+◌, ◌<◌}
use native.Mathlib.Omega.{arith}
use mathlib.Core.Logic.{◌⊎◌, inl, inr}
use Rattle.types.specs.declared.Side.{Side}
use Rattle.types.specs.declared.Side.TheVariants.{Sender, Recorder}
use Rattle.types.specs.declared.Step.{Step}
use Rattle.types.specs.declared.Step.TheVariants.{Rest, Look, Copy, Publish, Check, Raise, Wake, Gate, Spin, Epoch, Again, GateAgain, Wait, Asleep, LastLook, CloseSet, CloseRaise, CloseWake, ShutSet, ShutRaiseNe, ShutWakeNe, ShutRaiseNf, ShutWakeNf}
use Rattle.types.specs.declared.Access.{Access}
use Rattle.types.specs.declared.Access.TheVariants.{None, LoadCounter, LoadFlags, LoadBell, WriteSlot, ReadSlot, StoreCounter, RaiseBell, SetFlag, WaitBell, WakeBell}
use Rattle.rules.specs.Next.{next_at}
use Rattle.rules.specs.Phase.{Phase, resting, looking, copying, publishing, telling, asking, armed, poised, waits, sleeps, glancing, leaving}
use Rattle.rules.specs.Take.{stance_of}
use Rattle.rules.proofs.Does.{other_after}
use Rattle.rules.proofs.Leads.{Sight, Onward, straight, around, Leads, idles, finds, blocks, gives_up, copies, spills, tells, stores, owes, passes, raises, wakes, enters, stops, finds-spin, spins, reads, finds-again, stays, enters-again, stops-again, returns, ends, dreams, glances, glances-again, times-out, finds-last, finds-none, closes, closes-alone, close-raises, close-wakes, shuts, shut-raises, shut-wakes, shut-raises-again, shut-wakes-again, sleeps as falls-asleep}

-- a party with room, or that should stop, has cause not to sleep
abbrev pub Cause : (room : ℕ) → (stop : Bool) → Type 0
Cause (suc k) z = Unit
Cause zero true = Unit
Cause zero false = ⊥

pub has-cause : (k : ℕ) (z : Bool) → (0 < k) ⊎ (z ≡ true) → Cause k z
has-cause (suc k) z h = tt
has-cause zero true h = tt
has-cause zero false (inl h) = absurd (omega arith)
has-cause zero false (inr h) = absurd (false≢true h)

-- what a step still owes the other side: to check, to raise its bell, to wake its sleeper
pub data Duty : Type 0 where
  none checking raising waking : Duty

-- NE is the recorder's bell, NF the sender's
abbrev pub if_sender : {A : Type 0} → Side → A → A → A
if_sender Sender a b = a
if_sender Recorder a b = b

abbrev pub duty : Side → Step → Duty
duty side Rest = none
duty side Look = none
duty side Copy = none
duty side (Publish l g) = none
duty side (Check l g) = checking
duty side (Raise l g) = raising
duty side (Wake l g) = waking
duty side Gate = none
duty side (Spin n) = none
duty side Epoch = none
duty side (Again e) = none
duty side (GateAgain e) = none
duty side (Wait e) = none
duty side Asleep = none
duty side (LastLook c) = none
duty side CloseSet = none
duty side CloseRaise = raising
duty side CloseWake = waking
duty side (ShutSet c) = none
duty side (ShutRaiseNe c) = raising
duty side (ShutWakeNe c) = if_sender side waking raising
duty side (ShutRaiseNf c f) = if_sender side none raising
duty side (ShutWakeNf c f) = if_sender side none waking

owes-none : (side : Side) (n : ℕ) (t : Step) → Onward n t → duty side t ≡ none
owes-none side n t straight = refl
owes-none side n t (around m) = refl

-- the duty helps one with room k; a wake alone helps only a sleeper
abbrev pub Due : (asleep : Bool) → Duty → (room : ℕ) → Type 0
Due asleep none k = ⊥
Due asleep checking k = k ≡ 1
Due asleep raising k = Unit
Due true waking k = Unit
Due false waking k = ⊥

abbrev pub Owed : (asleep : Bool) → (room : ℕ) → (stop : Bool) → Duty → Type 0
Owed asleep k z d = Cause k z → Due asleep d k

-- what a party may rely on: n raises of its bell since its epoch, k its room, z whether it should stop, d what the other owes
abbrev pub Good : Phase → (n k : ℕ) → (z : Bool) → Duty → Type 0
Good resting n k z d = Unit
Good looking n k z d = Unit
Good copying n k z d = Unit
Good (publishing u t) n k z d = Unit
Good (telling u t) n k z d = Unit
Good asking n k z d = Unit
Good (armed e) n k z d = Unit
Good (poised e) n k z d = n ≡ 0 → Owed false k false d
Good (waits e) n k z d = n ≡ 0 → Owed false k z d
Good sleeps n k z d = Owed true k z d
Good glancing n k z d = Unit
Good leaving n k z d = Unit

-- how it goes on when the other moves
carry : (ph : Phase) (n k k' : ℕ) (z z' : Bool) (d d' : Duty) → (Owed false k false d → Owed false k' false d') → (Owed false k z d → Owed false k' z' d') → (ph ≡ sleeps → Owed true k z d → Owed true k' z' d')
    → Good ph n k z d → Good ph n k' z' d'
carry resting n k k' z z' d d' f g h x = tt
carry looking n k k' z z' d d' f g h x = tt
carry copying n k k' z z' d d' f g h x = tt
carry (publishing u t) n k k' z z' d d' f g h x = tt
carry (telling u t) n k k' z z' d d' f g h x = tt
carry asking n k k' z z' d d' f g h x = tt
carry (armed e) n k k' z z' d d' f g h x = tt
carry (poised e) n k k' z z' d d' f g h x = λ q. f (x q)
carry (waits e) n k k' z z' d d' f g h x = λ q. g (x q)
carry sleeps n k k' z z' d d' f g h x = h refl x
carry glancing n k k' z z' d d' f g h x = tt
carry leaving n k k' z z' d d' f g h x = tt

module _ (ph : Phase) (n k : ℕ) (z : Bool) where
  -- the other owed nothing
  calm : (d : Duty) → Good ph n k z none → Good ph n k z d
  calm d = carry ph n k k z z none d (λ o c. absurd (o c)) (λ o c. absurd (o c)) (λ s o c. absurd (o c))

  -- it has stored, and will check
  stored : Good ph n k z none → Good ph n (suc k) z checking
  stored = carry ph n k (suc k) z z none checking (by false k false) (by false k z) (λ s. by true k z)
    where
      by : (l : Bool) (k : ℕ) (z : Bool) → Owed l k z none → Owed l (suc k) z checking
      by l zero z o c = refl
      by l (suc k) z o c = absurd (o tt)

  -- it checked: it rings the one that was blocked before the store
  rings-it : k ≡ 1 → Good ph n k z checking → Good ph n k z raising
  rings-it e = carry ph n k k z z checking raising (λ o c. tt) (λ o c. tt) (λ s o c. tt)

  lets-be : (k ≡ 1 → ⊥) → Good ph n k z checking → Good ph n k z none
  lets-be e = carry ph n k k z z checking none (λ o c. e (o c)) (λ o c. e (o c)) (λ s o c. e (o c))

  -- it set a flag, and will ring
  flagged : (z' : Bool) (d : Duty) → Good ph n k z d → Good ph n k z' raising
  flagged z' d = carry ph n k k z z' d raising (λ o c. tt) (λ o c. tt) (λ s o c. tt)

  -- its wake is over, and there was no sleeper
  missed : (ph ≡ sleeps → ⊥) → Good ph n k z waking → Good ph n k z none
  missed awake = carry ph n k k z z waking none (λ o c. o c) (λ o c. o c) (λ s. absurd (awake s))

-- it raised the bell, and will wake
belled : (ph : Phase) (n k : ℕ) (z : Bool) → Good ph n k z raising → Good ph (n + 1) k z waking
belled resting n k z x = tt
belled looking n k z x = tt
belled copying n k z x = tt
belled (publishing u t) n k z x = tt
belled (telling u t) n k z x = tt
belled asking n k z x = tt
belled (armed e) n k z x = tt
belled (poised e) n k z x = λ q. absurd (omega arith)
belled (waits e) n k z x = λ q. absurd (omega arith)
belled sleeps n k z x = λ c. tt
belled glancing n k z x = tt
belled leaving n k z x = tt

-- a wake that lands ends a sleep
abbrev pub risen : (landed : Bool) → Phase → Phase
risen false ph = ph
risen true resting = resting
risen true looking = looking
risen true copying = copying
risen true (publishing u t) = (publishing u t)
risen true (telling u t) = (telling u t)
risen true asking = asking
risen true (armed e) = (armed e)
risen true (poised e) = (poised e)
risen true (waits e) = (waits e)
risen true sleeps = looking
risen true glancing = glancing
risen true leaving = leaving

landed-good : (landed : Bool) (ph : Phase) (n k : ℕ) (z : Bool) → (ph ≡ sleeps → landed ≡ true) → Good ph n k z waking → Good (risen landed ph) n k z none
landed-good false ph n k z h x = missed ph n k z (λ e. let f = h e in let y : ◌≡◌ {A = ℕ} 0 1 = cc in omega arith) x
landed-good true resting n k z h x = tt
landed-good true looking n k z h x = tt
landed-good true copying n k z h x = tt
landed-good true (publishing u t) n k z h x = tt
landed-good true (telling u t) n k z h x = tt
landed-good true asking n k z h x = tt
landed-good true (armed e) n k z h x = tt
landed-good true (poised e) n k z h x = λ q c. x q c
landed-good true (waits e) n k z h x = λ q c. x q c
landed-good true sleeps n k z h x = tt
landed-good true glancing n k z h x = tt
landed-good true leaving n k z h x = tt

-- what a turn of the mover at a step does to the other: raises of its bell, its room, and a wake for it
abbrev pub rung_by : Side → Step → ℕ → ℕ
rung_by side Rest n = n
rung_by side Look n = n
rung_by side Copy n = n
rung_by side (Publish l g) n = n
rung_by side (Check l g) n = n
rung_by side (Raise l g) n = n + 1
rung_by side (Wake l g) n = n
rung_by side Gate n = n
rung_by side (Spin i) n = n
rung_by side Epoch n = n
rung_by side (Again e) n = n
rung_by side (GateAgain e) n = n
rung_by side (Wait e) n = n
rung_by side Asleep n = n
rung_by side (LastLook c) n = n
rung_by side CloseSet n = n
rung_by side CloseRaise n = n + 1
rung_by side CloseWake n = n
rung_by side (ShutSet c) n = n
rung_by side (ShutRaiseNe c) n = if_sender side (n + 1) n
rung_by side (ShutWakeNe c) n = n
rung_by side (ShutRaiseNf c f) n = if_sender side n (n + 1)
rung_by side (ShutWakeNf c f) n = n

abbrev pub room_by : Step → ℕ → ℕ
room_by s k = other_after (stance_of s) k

abbrev pub wakes_at : Side → Step → Bool
wakes_at side Rest = false
wakes_at side Look = false
wakes_at side Copy = false
wakes_at side (Publish l g) = false
wakes_at side (Check l g) = false
wakes_at side (Raise l g) = false
wakes_at side (Wake l g) = true
wakes_at side Gate = false
wakes_at side (Spin n) = false
wakes_at side Epoch = false
wakes_at side (Again e) = false
wakes_at side (GateAgain e) = false
wakes_at side (Wait e) = false
wakes_at side Asleep = false
wakes_at side (LastLook c) = false
wakes_at side CloseSet = false
wakes_at side CloseRaise = false
wakes_at side CloseWake = true
wakes_at side (ShutSet c) = false
wakes_at side (ShutRaiseNe c) = false
wakes_at side (ShutWakeNe c) = if_sender side true false
wakes_at side (ShutRaiseNf c f) = false
wakes_at side (ShutWakeNf c f) = if_sender side false true

-- a step that sets no flag: of no side, by its access
abbrev pub sets_no : Access → Bool
sets_no None = true
sets_no (LoadCounter side) = true
sets_no LoadFlags = true
sets_no (LoadBell b) = true
sets_no (WriteSlot n) = true
sets_no (ReadSlot n) = true
sets_no (StoreCounter side n) = true
sets_no (RaiseBell b) = true
sets_no (SetFlag m) = false
sets_no (WaitBell b e) = true
sets_no (WakeBell b n) = true

abbrev pub sets_none : Step → Bool
sets_none s = sets_no (next_at s Sender 0)

-- a turn of the other's keeps what the waiter relies on. x is the waiter's room as the mover checks it, ok whether no failure
-- was announced
pub theirs : (side : Side) (g : Sight) (s next : Step) → Leads g s next → g.rings ≡ true → (ok : Bool) (ph : Phase) (n : ℕ) (z z' : Bool)
    → (sets_none s ≡ true → z' ≡ z) → (wakes_at side s ≡ true → ph ≡ sleeps → ok ≡ true)
    → Good ph n g.theirs z (duty side s) → Good (risen (wakes_at side s && ok) ph) (rung_by side s n) (room_by s g.theirs) z' (duty side next)
theirs side g s next idles t ok ph n z z' f l y = rw (f refl) y
theirs side g s next (finds h) t ok ph n z z' f l y = rw (f refl) (calm ph n g.theirs z _ y)
theirs side g s next (blocks h q) t ok ph n z z' f l y = rw (f refl) (calm ph n g.theirs z _ y)
theirs side g s next (gives_up h q) t ok ph n z z' f l y = rw (f refl) (calm ph n g.theirs z _ y)
theirs side g s next copies t ok ph n z z' f l y = rw (f refl) (calm ph n g.theirs z _ y)
theirs side g s next spills t ok ph n z z' f l y = rw (f refl) (calm ph n g.theirs z _ y)
theirs side g s next (tells h) t ok ph n z z' f l y = rw (f refl) (stored ph n g.theirs z y)
theirs side g s next (stores h) t ok ph n z z' f l y = absurd (let u : ◌≡◌ {A = ℕ} 0 1 = cc in omega arith)
theirs side g s next (owes h) t ok ph n z z' f l y = rw (f refl) (rings-it ph n g.theirs z h y)
theirs side g s next (passes h) t ok ph n z z' f l y = rw (f refl) (lets-be ph n g.theirs z h y)
theirs side g s next raises t ok ph n z z' f l y = rw (f refl) (belled ph n g.theirs z y)
theirs side g s next wakes t ok ph n z z' f l y = rw (f refl) (landed-good ok ph n g.theirs z (l refl) y)
theirs side g s next (enters h o) t ok ph n z z' f l y = rw (f refl, owes-none side _ next o) (calm ph n g.theirs z _ y)
theirs side g s next (finds-spin h) t ok ph n z z' f l y = rw (f refl) (calm ph n g.theirs z _ y)
theirs side g s next (spins h o) t ok ph n z z' f l y = rw (f refl, owes-none side _ next o) (calm ph n g.theirs z _ y)
theirs side g s next (stops h u) t ok ph n z z' f l y = rw (f refl) (calm ph n g.theirs z _ y)
theirs side g s next reads t ok ph n z z' f l y = rw (f refl) (calm ph n g.theirs z _ y)
theirs side g s next (finds-again h) t ok ph n z z' f l y = rw (f refl) (calm ph n g.theirs z _ y)
theirs side g s next (stays h) t ok ph n z z' f l y = rw (f refl) (calm ph n g.theirs z _ y)
theirs side g s next (enters-again h) t ok ph n z z' f l y = rw (f refl) (calm ph n g.theirs z _ y)
theirs side g s next (stops-again h u) t ok ph n z z' f l y = rw (f refl) (calm ph n g.theirs z _ y)
theirs side g s next (falls-asleep h) t ok ph n z z' f l y = rw (f refl) (calm ph n g.theirs z _ y)
theirs side g s next returns t ok ph n z z' f l y = rw (f refl) (calm ph n g.theirs z _ y)
theirs side g s next ends t ok ph n z z' f l y = rw (f refl) (calm ph n g.theirs z _ y)
theirs side g s next dreams t ok ph n z z' f l y = rw (f refl) y
theirs side g s next (glances h u) t ok ph n z z' f l y = rw (f refl) (calm ph n g.theirs z _ y)
theirs side g s next (glances-again h u) t ok ph n z z' f l y = rw (f refl) (calm ph n g.theirs z _ y)
theirs side g s next times-out t ok ph n z z' f l y = rw (f refl) (calm ph n g.theirs z _ y)
theirs side g s next (finds-last h) t ok ph n z z' f l y = rw (f refl) (calm ph n g.theirs z _ y)
theirs side g s next (finds-none h) t ok ph n z z' f l y = rw (f refl) (calm ph n g.theirs z _ y)
theirs side g s next (closes h) t ok ph n z z' f l y = flagged ph n g.theirs z z' _ y
theirs side g s next (closes-alone h) t ok ph n z z' f l y = absurd (let u : ◌≡◌ {A = ℕ} 0 1 = cc in omega arith)
theirs side g s next close-raises t ok ph n z z' f l y = rw (f refl) (belled ph n g.theirs z y)
theirs side g s next close-wakes t ok ph n z z' f l y = rw (f refl) (landed-good ok ph n g.theirs z (l refl) y)
theirs side g s next shuts t ok ph n z z' f l y = flagged ph n g.theirs z z' _ y
theirs Sender g s next shut-raises t ok ph n z z' f l y = rw (f refl) (belled ph n g.theirs z y)
theirs Recorder g s next shut-raises t ok ph n z z' f l y = rw (f refl) y
theirs Sender g s next shut-wakes t ok ph n z z' f l y = rw (f refl) (landed-good ok ph n g.theirs z (l refl) y)
theirs Recorder g s next shut-wakes t ok ph n z z' f l y = rw (f refl) y
theirs Sender g s next shut-raises-again t ok ph n z z' f l y = rw (f refl) y
theirs Recorder g s next shut-raises-again t ok ph n z z' f l y = rw (f refl) (belled ph n g.theirs z y)
theirs Sender g s next shut-wakes-again t ok ph n z z' f l y = rw (f refl) y
theirs Recorder g s next shut-wakes-again t ok ph n z z' f l y = rw (f refl) (landed-good ok ph n g.theirs z (l refl) y)
