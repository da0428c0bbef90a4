use Rattle.opening.specs.Night.{start}
use Rattle.opening.proofs.Begun.{made}
use Rattle.opening.proofs.start.Goals as goal

pub returns : goal.returns
unfolding start
returns c =
    rw (c.attach-2.ensures.reply, c.attach-2.ensures.leaves, c.attach.ensures.reply, c.attach.ensures.leaves, c.create.ensures.leaves, made)
