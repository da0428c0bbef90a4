-- Both parties and their sleeping places: what an event makes of them, of the region and of the buffer.
use Rattle.std.specs.Prelude.{Bool, true, false, ◌&&◌, List, ℕ, None, Some}
use Rattle.types.specs.Pick.{pick}
use Rattle.types.specs.declared.Side.{Side}
use Rattle.types.specs.declared.Side.TheVariants.{Sender, Recorder}
use Rattle.types.specs.declared.Bell.{Bell}
use Rattle.types.specs.declared.Bell.TheVariants.{NotEmpty, NotFull}
use Rattle.types.specs.declared.Party.{Party}
use Rattle.types.specs.declared.Reply.{Reply}
use Rattle.types.specs.declared.Turned.{Turned}
use Rattle.types.specs.Faults.{Fault}
use Rattle.types.specs.Faults.{Woke}
use Rattle.types.specs.declared.Step.TheVariants.{Look}
use Rattle.types.specs.declared.Bench.{Bench}
use Rattle.types.specs.declared.Played.{Played}
use Rattle.types.specs.declared.Event.{Event}
use Rattle.types.specs.declared.Event.TheVariants.{Turn, Failing, Spurious, TimeOut, Push, Pop, Close, Shutdown}
use Rattle.rules.specs.Sides.{other, sleep_bell}
use Rattle.rules.specs.Take.{stance_of}
use Rattle.rules.specs.Calls.{is_sleeping, at, push_spec, pop_spec, close_spec, shut_spec, spurious_spec, timeout_spec}
use Rattle.rules.specs.Turn.{turn_spec, turn_leaves, turn_buffer}

abbrev pub party_of : Bench → Side → Party
party_of b Sender = b.sender
party_of b Recorder = b.recorder

abbrev pub seat : Bench → Side → Party → Bench
seat b Sender p = record { sender = p; recorder = b.recorder }
seat b Recorder p = record { sender = b.sender; recorder = p }

-- does whoever sleeps at that place hear it?
abbrev pub same_bell : Bell → Bell → Bool
same_bell NotEmpty NotEmpty = true
same_bell NotEmpty NotFull = false
same_bell NotFull NotEmpty = false
same_bell NotFull NotFull = true

abbrev pub hears : Side → Woke → Bool
hears side None = false
hears side (Some b) = same_bell b (sleep_bell side)

-- a wake leads a sleeper to its look, and moves nobody else
unfoldable pub wakened : Side → Party → Woke → Party
wakened side p w = pick (hears side w && is_sleeping (stance_of p.step)) (at Look p) p

-- a party's reply, and a turn of a side with whom it woke: the other alone can sleep meanwhile
unfoldable pub settled : Bench → Side → Reply → Played
settled b side r = record { bench = seat b side r.party; answer = r.answer }

unfoldable pub turned : Bench → Side → Turned → Played
turned b side t =
    record {
      bench = seat (seat b side t.party) (other side) (wakened (other side) (party_of b (other side)) t.woke);
      answer = t.answer;
    }

module _ (region : List ℕ) (b : Bench) (payload buffer : List ℕ) where
  abbrev pub turn_played : Side → Fault → Played
  turn_played side fault = turned b side (turn_spec side region (party_of b side) payload buffer fault)

  unfoldable pub played : Event → Played
  played (Turn side) = turn_played side None
  played (Failing side error) = turn_played side (Some error)
  played (Spurious side) = settled b side (spurious_spec side (party_of b side))
  played (TimeOut side) = settled b side (timeout_spec side (party_of b side))
  played (Push blocking tag length) = settled b Sender (push_spec b.sender blocking tag length)
  played (Pop blocking length) = settled b Recorder (pop_spec b.recorder blocking length)
  played (Close side) = settled b side (close_spec side (party_of b side))
  played (Shutdown side) = settled b side (shut_spec side (party_of b side))

  unfoldable pub played_leaves : Event → List ℕ
  played_leaves (Turn side) = turn_leaves side region (party_of b side) payload buffer None
  played_leaves (Failing side error) = turn_leaves side region (party_of b side) payload buffer (Some error)
  played_leaves (Spurious side) = region
  played_leaves (TimeOut side) = region
  played_leaves (Push blocking tag length) = region
  played_leaves (Pop blocking length) = region
  played_leaves (Close side) = region
  played_leaves (Shutdown side) = region

  unfoldable pub played_buffer : Event → List ℕ
  played_buffer (Turn side) = turn_buffer side region (party_of b side) payload buffer None
  played_buffer (Failing side error) = turn_buffer side region (party_of b side) payload buffer (Some error)
  played_buffer (Spurious side) = buffer
  played_buffer (TimeOut side) = buffer
  played_buffer (Push blocking tag length) = buffer
  played_buffer (Pop blocking length) = buffer
  played_buffer (Close side) = buffer
  played_buffer (Shutdown side) = buffer
