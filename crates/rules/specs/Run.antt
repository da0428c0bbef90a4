-- A run: what happens, one thing after another, to a region and its two parties; and the notes that are sent and delivered.
use Rattle.std.specs.Prelude.{Bool, List, [], ◌∷◌, ◌++◌, ℕ, ◌+◌, eqb, length, take, None, Some}
use Rattle.types.specs.Pick.{pick}
use Rattle.types.specs.Answers.{number}
use Rattle.types.specs.declared.Side.{Side}
use Rattle.types.specs.declared.Side.TheVariants.{Sender, Recorder}
use Rattle.types.specs.declared.Bell.{Bell}
use Rattle.types.specs.declared.Bell.TheVariants.{NotEmpty, NotFull}
use Rattle.types.specs.declared.Party.{Party}
use Rattle.types.specs.Faults.{Fault}
use Rattle.types.specs.declared.Step.{Step}
use Rattle.types.specs.declared.Access.{Access}
use Rattle.types.specs.declared.Access.TheVariants.{None as NoAccess, LoadCounter, LoadFlags, LoadBell, WriteSlot, ReadSlot, StoreCounter, RaiseBell, SetFlag, WaitBell, WakeBell}
use Rattle.types.specs.declared.Bench.{Bench}
use Rattle.types.specs.declared.Event.{Event}
use Rattle.types.specs.declared.Event.TheVariants.{Turn, Failing, Spurious, TimeOut, Push, Pop, Close, Shutdown}
use Rattle.layout.specs.Attach.{unattached, attach_answer, attach_reply, attach_leaves}
use Rattle.rules.specs.Phase.{Phase, resting, looking, copying, publishing, telling, asking, armed, poised, waits, sleeps, glancing, leaving, phase}
use Rattle.rules.specs.Next.{next_spec}
use Rattle.rules.specs.Turn.{taken, act_buffer}
use Rattle.rules.specs.Bench.{party_of, seat, played, played_leaves}

pub record Note : Type 0 where
  pub tag : ℕ
  pub body : List ℕ

-- what is kept for the statements alone: the buffer that the last copy of a pop was lent, as it left it; the note that the
-- running push copied; the notes sent and the notes delivered; for each side how often its bell was raised since it read
-- the epoch
pub record Trace : Type 0 where
  pub buffer : List ℕ
  pub hand : Note
  pub sent : List Note
  pub delivered : List Note
  pub rung_sender : ℕ
  pub rung_recorder : ℕ

-- the raises of a side's bell since it read the epoch
abbrev pub rung_of : Side → Trace → ℕ
rung_of Sender t = t.rung_sender
rung_of Recorder t = t.rung_recorder

pub record World : Type 0 where
  pub region : List ℕ
  pub bench : Bench
  pub trace : Trace

-- an attach with a spin count, or an event of the bench, whose turn is lent a payload and a buffer
pub data Happening : Type 0 where
  attaches : Side → (spins : ℕ) → Happening
  plays : Event → (payload buffer : List ℕ) → Happening

abbrev pub party_in : World → Side → Party
party_in w side = party_of w.bench side

-- a turn that 20 does not refuse
abbrev pub takes : World → Side → (payload buffer : List ℕ) → Fault → Bool
takes w side payload buffer fault = taken side w.region (party_in w side) payload buffer fault

-- a push's note is what it named and was lent at its copy turn
abbrev pub holding : Note → Trace → Trace
holding n t = record { buffer = t.buffer; hand = n; sent = t.sent; delivered = t.delivered; rung_sender = t.rung_sender; rung_recorder = t.rung_recorder }

abbrev pub buffered : List ℕ → Trace → Trace
buffered b t = record { buffer = b; hand = t.hand; sent = t.sent; delivered = t.delivered; rung_sender = t.rung_sender; rung_recorder = t.rung_recorder }

-- the length and the tag that a step carries
pub record Carried : Type 0 where
  pub length : ℕ
  pub tag : ℕ

-- it is sent as the push publishes; a pop's note is delivered as it publishes, with the length and the tag that the step
-- carries and the first bytes of the buffer
abbrev pub published : Side → Carried → Trace → Trace
published Sender c t = record { buffer = t.buffer; hand = t.hand; sent = t.sent ++ (t.hand ∷ []); delivered = t.delivered; rung_sender = t.rung_sender; rung_recorder = t.rung_recorder }
published Recorder c t =
    record {
      buffer = t.buffer;
      hand = t.hand;
      sent = t.sent;
      delivered = t.delivered ++ (record { tag = c.tag; body = take c.length t.buffer } ∷ []);
      rung_sender = t.rung_sender;
      rung_recorder = t.rung_recorder;
    }

-- a bell's raises are counted anew for the side that sleeps on it, and one more
abbrev pub counted : Bell → (ℕ → ℕ) → Trace → Trace
counted NotFull f t = record { buffer = t.buffer; hand = t.hand; sent = t.sent; delivered = t.delivered; rung_sender = f t.rung_sender; rung_recorder = t.rung_recorder }
counted NotEmpty f t = record { buffer = t.buffer; hand = t.hand; sent = t.sent; delivered = t.delivered; rung_sender = t.rung_sender; rung_recorder = f t.rung_recorder }

abbrev pub carried_at : Phase → Carried
carried_at resting = record { length = 0; tag = 0 }
carried_at looking = record { length = 0; tag = 0 }
carried_at copying = record { length = 0; tag = 0 }
carried_at (publishing l t) = record { length = l; tag = t }
carried_at (telling l t) = record { length = l; tag = t }
carried_at asking = record { length = 0; tag = 0 }
carried_at (armed e) = record { length = 0; tag = 0 }
carried_at (poised e) = record { length = 0; tag = 0 }
carried_at (waits e) = record { length = 0; tag = 0 }
carried_at sleeps = record { length = 0; tag = 0 }
carried_at glancing = record { length = 0; tag = 0 }
carried_at leaving = record { length = 0; tag = 0 }

abbrev pub carried : Step → Carried
carried s = carried_at (phase s)

abbrev pub traced : Access → Party → (payload buffer : List ℕ) → Trace → Trace
traced NoAccess p payload buffer t = t
traced (LoadCounter side) p payload buffer t = t
traced LoadFlags p payload buffer t = t
traced (LoadBell b) p payload buffer t = counted b (λ n. 0) t
traced (WriteSlot n) p payload buffer t = holding (record { tag = p.tag; body = payload }) t
traced (ReadSlot n) p payload buffer t = buffered buffer t
traced (StoreCounter side n) p payload buffer t = published side (carried p.step) t
traced (RaiseBell b) p payload buffer t = counted b (λ n. n + 1) t
traced (SetFlag m) p payload buffer t = t
traced (WaitBell b e) p payload buffer t = t
traced (WakeBell b n) p payload buffer t = t

abbrev pub turn_traced : World → Side → (payload buffer : List ℕ) → Fault → Trace
turn_traced w side payload buffer fault =
    pick (takes w side payload buffer fault)
    (traced (next_spec (party_in w side)) (party_in w side) payload (act_buffer w.region (party_in w side) buffer) w.trace)
    w.trace

abbrev pub trace_after : World → Event → (payload buffer : List ℕ) → Trace
trace_after w (Turn side) payload buffer = turn_traced w side payload buffer None
trace_after w (Failing side error) payload buffer = turn_traced w side payload buffer (Some error)
trace_after w (Spurious side) payload buffer = w.trace
trace_after w (TimeOut side) payload buffer = w.trace
trace_after w (Push blocking tag length) payload buffer = w.trace
trace_after w (Pop blocking length) payload buffer = w.trace
trace_after w (Close side) payload buffer = w.trace
trace_after w (Shutdown side) payload buffer = w.trace

-- an attach seats its party where it is accepted
abbrev pub attach_seats : World → Side → (spins : ℕ) → Bench
attach_seats w side spins =
    pick (eqb (number (attach_answer w.region side spins)) 0) (seat w.bench side (attach_reply w.region side spins).party) w.bench

unfoldable pub happens : Happening → World → World
happens (attaches side spins) w = record { region = attach_leaves w.region side spins; bench = attach_seats w side spins; trace = w.trace }
happens (plays e payload buffer) w =
    record {
      region = played_leaves w.region w.bench payload buffer e;
      bench = (played w.region w.bench payload buffer e).bench;
      trace = trace_after w e payload buffer;
    }

unfoldable pub run : List Happening → World → World
run [] w = w
run (h ∷ hs) w = run hs (happens h w)

-- a created region, nobody attached, nothing sent
abbrev pub opened : (region : List ℕ) → World
opened region =
    record {
      region = region;
      bench = record { sender = unattached Sender; recorder = unattached Recorder };
      trace = record { buffer = []; hand = record { tag = 0; body = [] }; sent = []; delivered = []; rung_sender = 0; rung_recorder = 0 };
    }
