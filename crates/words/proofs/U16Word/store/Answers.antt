use Rattle.std.proofs.Common.{◌∙◌}
use Rattle.words.proofs.Laws.{put_le-lent}
use Rattle.words.proofs.U16Word.store.Goals as goal

pub returns : goal.returns
returns c = put_le-lent 2 _ _ _ _ c.requires (c.copy_from_slice.ensures.after ∙ c.to_le_bytes.ensures)
