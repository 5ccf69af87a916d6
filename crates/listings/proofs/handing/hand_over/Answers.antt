use Rattle.listings.proofs.handing.Steps.{short_refused, short_kept, whole_room, whole_accepted, whole_written}
use Rattle.listings.proofs.handing.hand_over.Goals as goal

pub returns-then-buffer-text : goal.returns-then-buffer-text
returns-then-buffer-text c = record { verdict = search short_refused; written = search short_kept }

pub put_text-requires : goal.put_text-requires
put_text-requires c = search whole_room

pub returns : goal.returns
returns c = record { verdict = search whole_accepted; written = search whole_written }
