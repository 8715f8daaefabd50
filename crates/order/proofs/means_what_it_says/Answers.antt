use Rattle.order.proofs.Trust.{all_arrived, copy-first, sent_length, sent_at, buffer_climbs, inserted_between, dropped_beside}
use Rattle.order.proofs.means_what_it_says.Goals as goal

pub returns : goal.returns
returns c = record { all_arrived = all_arrived; copy_first = copy-first; sent_length = sent_length; sent_at = λ h i x d l e. sent_at h i d l e; buffer_climbs = buffer_climbs; inserted_between = inserted_between; dropped_beside = dropped_beside }
