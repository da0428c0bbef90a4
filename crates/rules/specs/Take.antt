-- What becomes of a party when the access of its turn gave back a value, or was announced to fail.
use Rattle.std.specs.Prelude.{Bool, true, ℕ, ◌%◌, ◌^◌}
use Rattle.words.specs.Wrap.{next}
use Rattle.types.specs.declared.Own.{Own}
use Rattle.types.specs.declared.Party.{Party}
use Rattle.types.specs.declared.Reply.{Reply}
use Rattle.types.specs.declared.Answer.{Answer}
use Rattle.types.specs.declared.Answer.TheVariants.{GoesOn, Nothing}
use Rattle.types.specs.declared.Step.{Step}
use Rattle.types.specs.declared.Step.TheVariants.{Rest, Look, Copy, Publish, Check, Raise, Wake, Gate, Spin, Epoch, Again, GateAgain, Wait, Asleep, LastLook, CloseSet, CloseRaise, CloseWake, ShutSet, ShutRaiseNe, ShutWakeNe, ShutRaiseNf, ShutWakeNf}
use Rattle.types.specs.declared.Stance.{Stance}
use Rattle.types.specs.declared.Stance.TheVariants.{Resting, Sleeping, Copying, Publishing, Closing, Moving}
use Rattle.types.specs.declared.Move.{Move}
use Rattle.types.specs.declared.Move.TheVariants.{Still, To, End}
use Rattle.rules.specs.Steps.{look_move, copy_move, publish_move, check_move, wake_move, gate_move, to_spin, spin_move, again_move, wait_move, last_move, close_move, shut_move}

-- own and counter, blocking and length are the party's, v the value that came back, f the error announced (0: none)
abbrev pub move_at : Step → Own → (counter : ℕ) → (blocking : Bool) → (length v f : ℕ) → Move
move_at Rest own n b l v f = Still
move_at Look own n b l v f = look_move own n b v
move_at Copy own n b l v f = copy_move own l v
move_at (Publish len tag) own n b l v f = publish_move own len tag
move_at (Check len tag) own n b l v f = check_move own n v len tag
move_at (Raise len tag) own n b l v f = To (Wake len tag)
move_at (Wake len tag) own n b l v f = wake_move own f len tag
move_at Gate own n b l v f = gate_move own v (to_spin own.spins)
move_at (Spin left) own n b l v f = spin_move own n v left
move_at Epoch own n b l v f = To (Again (v % 2 ^ 32))
move_at (Again e) own n b l v f = again_move own n v e
move_at (GateAgain e) own n b l v f = gate_move own v (Wait e)
move_at (Wait e) own n b l v f = wait_move own v f e
move_at Asleep own n b l v f = Still
move_at (LastLook timed) own n b l v f = last_move own n v timed
move_at CloseSet own n b l v f = close_move own
move_at CloseRaise own n b l v f = To CloseWake
move_at CloseWake own n b l v f = wake_move own f 0 0
move_at (ShutSet c) own n b l v f = To (ShutRaiseNe c)
move_at (ShutRaiseNe c) own n b l v f = To (ShutWakeNe c)
move_at (ShutWakeNe c) own n b l v f = To (ShutRaiseNf c f)
move_at (ShutRaiseNf c e) own n b l v f = To (ShutWakeNf c e)
move_at (ShutWakeNf c e) own n b l v f = shut_move c e f

-- how a step stands, apart from its turn
abbrev pub stance_of : Step → Stance
stance_of Rest = Resting
stance_of Look = Moving
stance_of Copy = Copying
stance_of (Publish len tag) = Publishing
stance_of (Check len tag) = Moving
stance_of (Raise len tag) = Moving
stance_of (Wake len tag) = Moving
stance_of Gate = Moving
stance_of (Spin left) = Moving
stance_of Epoch = Moving
stance_of (Again e) = Moving
stance_of (GateAgain e) = Moving
stance_of (Wait e) = Moving
stance_of Asleep = Sleeping
stance_of (LastLook timed) = Moving
stance_of CloseSet = Closing
stance_of CloseRaise = Moving
stance_of CloseWake = Moving
stance_of (ShutSet c) = Moving
stance_of (ShutRaiseNe c) = Moving
stance_of (ShutWakeNe c) = Moving
stance_of (ShutRaiseNf c e) = Moving
stance_of (ShutWakeNf c e) = Moving

abbrev pub step_after : Move → Step → Step
step_after Still s = s
step_after (To t) s = t
step_after (End a) s = Rest

abbrev pub answer_of : Move → Answer
answer_of Still = Nothing
answer_of (To t) = GoesOn
answer_of (End a) = a

-- P3 and C3 advance the own counter
abbrev pub counter_after : Stance → ℕ → ℕ
counter_after Resting n = n
counter_after Sleeping n = n
counter_after Copying n = n
counter_after Publishing n = next 64 n
counter_after Closing n = n
counter_after Moving n = n

-- one's own close counts from the turn that sets its bit
abbrev pub closed_after : Stance → Bool → Bool
closed_after Resting b = b
closed_after Sleeping b = b
closed_after Copying b = b
closed_after Publishing b = b
closed_after Closing b = true
closed_after Moving b = b

unfoldable pub move_of : Party → (v f : ℕ) → Move
move_of p v f = move_at p.step p.own p.counter p.blocking p.length v f

unfoldable pub take_spec : Party → (v f : ℕ) → Reply
take_spec p v f =
    record {
      party = record {
        own = p.own;
        closed = closed_after (stance_of p.step) p.closed;
        counter = counter_after (stance_of p.step) p.counter;
        blocking = p.blocking;
        tag = p.tag;
        length = p.length;
        step = step_after (move_of p v f) p.step;
      };
      answer = answer_of (move_of p v f);
    }
