-- `replies::put` meets its contract: the text is copied into its part.
use Rattle.replies.proofs.Putting.{copied}
use Rattle.replies.proofs.put.Goals as goal

pub returns : goal.returns
returns c = copied _ _ _ _ c.copy_from_slice.ensures.after c.requires
