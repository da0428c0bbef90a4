-- One answer: crate `words`, at every width.
use mathlib.Core.Path.{refl, sym, ◌∙◌, ap}
use Rattle.one_answer.specs.OneAnswer.{OneAnswer}
use Rattle.words.proofs as code

pub u8-load : OneAnswer code.U8Word.load.Kinds.ps code.U8Word.load.Kinds.r code.U8Word.load.Reads.Post
u8-load κs a z z' ws ws' p q = (p ∙ sym q, refl)

pub u16-load : OneAnswer code.U16Word.load.Kinds.ps code.U16Word.load.Kinds.r code.U16Word.load.Reads.Post
u16-load κs a z z' ws ws' p q = (p ∙ sym q, refl)

pub u32-load : OneAnswer code.U32Word.load.Kinds.ps code.U32Word.load.Kinds.r code.U32Word.load.Reads.Post
u32-load κs a z z' ws ws' p q = (p ∙ sym q, refl)

pub u64-load : OneAnswer code.U64Word.load.Kinds.ps code.U64Word.load.Kinds.r code.U64Word.load.Reads.Post
u64-load κs a z z' ws ws' p q = (p ∙ sym q, refl)

pub u8-store : OneAnswer code.U8Word.store.Kinds.ps code.U8Word.store.Kinds.r code.U8Word.store.Reads.Post
u8-store κs a z z' ws ws' p q = (refl, ap (λ v. (tt, (v, (tt, tt)))) (p ∙ sym q))

pub u16-store : OneAnswer code.U16Word.store.Kinds.ps code.U16Word.store.Kinds.r code.U16Word.store.Reads.Post
u16-store κs a z z' ws ws' p q = (refl, ap (λ v. (tt, (v, (tt, tt)))) (p ∙ sym q))

pub u32-store : OneAnswer code.U32Word.store.Kinds.ps code.U32Word.store.Kinds.r code.U32Word.store.Reads.Post
u32-store κs a z z' ws ws' p q = (refl, ap (λ v. (tt, (v, (tt, tt)))) (p ∙ sym q))

pub u64-store : OneAnswer code.U64Word.store.Kinds.ps code.U64Word.store.Kinds.r code.U64Word.store.Reads.Post
u64-store κs a z z' ws ws' p q = (refl, ap (λ v. (tt, (v, (tt, tt)))) (p ∙ sym q))

pub u32-next : OneAnswer code.U32Wraps.next.Kinds.ps code.U32Wraps.next.Kinds.r code.U32Wraps.next.Reads.Post
u32-next κs a z z' ws ws' p q = (p ∙ sym q, refl)

pub u32-ahead-of : OneAnswer code.U32Wraps.ahead_of.Kinds.ps code.U32Wraps.ahead_of.Kinds.r code.U32Wraps.ahead_of.Reads.Post
u32-ahead-of κs a z z' ws ws' p q = (p ∙ sym q, refl)

pub u64-next : OneAnswer code.U64Wraps.next.Kinds.ps code.U64Wraps.next.Kinds.r code.U64Wraps.next.Reads.Post
u64-next κs a z z' ws ws' p q = (p ∙ sym q, refl)

pub u64-ahead-of : OneAnswer code.U64Wraps.ahead_of.Kinds.ps code.U64Wraps.ahead_of.Kinds.r code.U64Wraps.ahead_of.Reads.Post
u64-ahead-of κs a z z' ws ws' p q = (p ∙ sym q, refl)
