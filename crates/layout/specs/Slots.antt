-- A slot of the ring: length u16, tag u16, slot flags u16, zero u16, payload.
use Rattle.std.specs.Prelude.{List, ◌++◌, ℕ, ◌+◌, ◌*◌, ◌%◌, ◌/◌, ◌^◌, length, drop}
use Rattle.std.proofs.lemmas.List.Edits.{sets}
use Rattle.words.specs.Bytes.{part}
use Rattle.words.specs.Le.{le_at, le_bytes}
use Rattle.types.specs.declared.SlotHead.{SlotHead}
use Rattle.layout.specs.Limits.{header_bytes, slot_head_bytes, capacity}

-- where the slot of a counter begins
unfoldable pub slot_at : (power slot count : ℕ) → ℕ
slot_at power slot count = header_bytes + count % capacity power * slot

-- a slot's header is read as one word of eight bytes ..
abbrev pub head_word : List ℕ → ℕ
head_word s = le_at 8 s 0

-- .. whose fields are of 16 bits each, the first one lowest
unfoldable pub head_of : (word : ℕ) → SlotHead
head_of word =
    record { length = word % 2 ^ 16; tag = word / 2 ^ 16 % 2 ^ 16; flags = word / 2 ^ 32 % 2 ^ 16; zero = word / 2 ^ 48 % 2 ^ 16 }

abbrev pub payload_in : List ℕ → ℕ → List ℕ
payload_in s n = part s slot_head_bytes n

-- what a push writes, from the slot's start on: zeros to slot flags and zero word, and nothing past the payload
unfoldable pub slot_bytes : (tag : ℕ) → List ℕ → List ℕ
slot_bytes tag payload = le_bytes 2 (length payload) ++ (le_bytes 2 tag ++ (le_bytes 2 0 ++ (le_bytes 2 0 ++ payload)))

-- the region after a push's copy
unfoldable pub slot_put : List ℕ → (at tag : ℕ) → List ℕ → List ℕ
slot_put r at tag payload = sets r at (slot_bytes tag payload)

-- the buffer after a pop's copy of n bytes: they stand at its start, and the rest stays
unfoldable pub buffer_put : List ℕ → List ℕ → ℕ → List ℕ
buffer_put buffer s n = payload_in s n ++ drop n buffer
