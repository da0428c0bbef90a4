-- One answer: crate `header`.
use mathlib.Core.Path.{◌≡◌, refl, sym, ◌∙◌}
use denote.RattleType.{RattleType}
use denote.Param.Laws.{Laws, IsCopy, of_field}
use mir.Syntax.{Dict}
use Rattle.std.specs.declared.clone.Clone
use Rattle.words.specs.declared.Word
use Rattle.words.specs.contracts.U8Word.TheImpl as word8
use Rattle.words.specs.contracts.U8Word.TheImpl.Laws as laws8
use Rattle.std.specs.contracts.prelude.U8Clone.TheImpl as clone8
use Rattle.words.specs.contracts.U16Word.TheImpl as word16
use Rattle.words.specs.contracts.U16Word.TheImpl.Laws as laws16
use Rattle.std.specs.contracts.prelude.U16Clone.TheImpl as clone16
use Rattle.words.specs.contracts.U32Word.TheImpl as word32
use Rattle.words.specs.contracts.U32Word.TheImpl.Laws as laws32
use Rattle.std.specs.contracts.prelude.U32Clone.TheImpl as clone32
use Rattle.words.specs.contracts.U64Word.TheImpl as word64
use Rattle.words.specs.contracts.U64Word.TheImpl.Laws as laws64
use Rattle.std.specs.contracts.prelude.U64Clone.TheImpl as clone64
use denote.Builtin.{u8, u16, u32, u64}
use denote.Param.Shared.{copy_shared}
use denote.Struct.Field.{u8-field, u16-field, u32-field, u64-field}
use denote.Struct.Laws.{u8-laws, u8-copy, u16-laws, u16-copy, u32-laws, u32-copy, u64-laws, u64-copy}
use Rattle.one_answer.specs.OneAnswer.{OneAnswer}
use Rattle.header.proofs as code

pub header-counter-at : OneAnswer code.Header.counter_at.Kinds.ps code.Header.counter_at.Kinds.r code.Header.counter_at.Reads.Post
header-counter-at κs a z z' ws ws' p q = (p.0 ∙ sym q.0, refl)

pub header-bell-at : OneAnswer code.Header.bell_at.Kinds.ps code.Header.bell_at.Kinds.r code.Header.bell_at.Reads.Post
header-bell-at κs a z z' ws ws' p q = (p.0 ∙ sym q.0, refl)

pub header-initialised : OneAnswer code.Header.initialised.Kinds.ps code.Header.initialised.Kinds.r code.Header.initialised.Reads.Post
header-initialised κs a z z' ws ws' p q = (p ∙ sym q, refl)

pub header-notfull-on : OneAnswer code.Header.notfull_on.Kinds.ps code.Header.notfull_on.Kinds.r code.Header.notfull_on.Reads.Post
header-notfull-on κs a z z' ws ws' p q = (p ∙ sym q, refl)

pub header-has : OneAnswer code.Header.has.Kinds.ps code.Header.has.Kinds.r code.Header.has.Reads.Post
header-has κs a z z' ws ws' p q = (p ∙ sym q, refl)

pub header-with-mark : OneAnswer code.Header.with_mark.Kinds.ps code.Header.with_mark.Kinds.r code.Header.with_mark.Reads.Post
header-with-mark κs a z z' ws ws' p q = (p ∙ sym q, refl)

pub header-attach-mark : OneAnswer code.Header.attach_mark.Kinds.ps code.Header.attach_mark.Kinds.r code.Header.attach_mark.Reads.Post
header-attach-mark κs a z z' ws ws' p q = (p ∙ sym q, refl)

pub header-close-mark : OneAnswer code.Header.close_mark.Kinds.ps code.Header.close_mark.Kinds.r code.Header.close_mark.Reads.Post
header-close-mark κs a z z' ws ws' p q = (p ∙ sym q, refl)

-- at any width at which a word's number is its own
module _ (T : RattleType) (laws : Laws T) (copied : IsCopy T) (word : Word.Ghosts T.Denot) (word-code : Dict) (clone : Clone.Ghosts T.Denot) (clone-code : Dict) where
  pub header-read : ((x y : T.Denot) → word.number x ≡ word.number y → x ≡ y)
      → OneAnswer (code.Header.read.Kinds.ps T laws copied) (code.Header.read.Kinds.r T laws copied) (code.Header.read.Reads.Post T laws copied word word-code clone clone-code)
  header-read exact κs a z z' ws ws' p q = (exact z z' (p ∙ sym q), refl)

-- and so at each that there is, where the impl has it as a law
abbrev lawful8 : Laws u8
lawful8 = of_field u8-field u8-laws refl (copy_shared u8-field u8-copy)

pub header-read-u8 : OneAnswer (code.Header.read.Kinds.ps u8 lawful8 u8-copy) (code.Header.read.Kinds.r u8 lawful8 u8-copy) (code.Header.read.Reads.Post u8 lawful8 u8-copy word8.ghosts word8.dict clone8.ghosts clone8.dict)
header-read-u8 = header-read u8 lawful8 u8-copy word8.ghosts word8.dict clone8.ghosts clone8.dict laws8.exact-law

abbrev lawful16 : Laws u16
lawful16 = of_field u16-field u16-laws refl (copy_shared u16-field u16-copy)

pub header-read-u16 : OneAnswer (code.Header.read.Kinds.ps u16 lawful16 u16-copy) (code.Header.read.Kinds.r u16 lawful16 u16-copy) (code.Header.read.Reads.Post u16 lawful16 u16-copy word16.ghosts word16.dict clone16.ghosts clone16.dict)
header-read-u16 = header-read u16 lawful16 u16-copy word16.ghosts word16.dict clone16.ghosts clone16.dict laws16.exact-law

abbrev lawful32 : Laws u32
lawful32 = of_field u32-field u32-laws refl (copy_shared u32-field u32-copy)

pub header-read-u32 : OneAnswer (code.Header.read.Kinds.ps u32 lawful32 u32-copy) (code.Header.read.Kinds.r u32 lawful32 u32-copy) (code.Header.read.Reads.Post u32 lawful32 u32-copy word32.ghosts word32.dict clone32.ghosts clone32.dict)
header-read-u32 = header-read u32 lawful32 u32-copy word32.ghosts word32.dict clone32.ghosts clone32.dict laws32.exact-law

abbrev lawful64 : Laws u64
lawful64 = of_field u64-field u64-laws refl (copy_shared u64-field u64-copy)

pub header-read-u64 : OneAnswer (code.Header.read.Kinds.ps u64 lawful64 u64-copy) (code.Header.read.Kinds.r u64 lawful64 u64-copy) (code.Header.read.Reads.Post u64 lawful64 u64-copy word64.ghosts word64.dict clone64.ghosts clone64.dict)
header-read-u64 = header-read u64 lawful64 u64-copy word64.ghosts word64.dict clone64.ghosts clone64.dict laws64.exact-law
