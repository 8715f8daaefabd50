-- Room is judged on the whole state, and a call changes one channel: where the state kept the limits, they are kept exactly where the
-- channel keeps them. Assumes nothing.
use mathlib.Core.Path.{◌≡◌, refl}
use mathlib.Core.Bool.{true, ◌||◌, and-true}
use borrow.Author.Tests.{le-leb}
use lib.ListN.{length}
use Rattle.list.proofs.Find.{all_b_put, put_room}
use Rattle.model.specs.State.{OffChannel, OnChannel, Protocol, is_off, is_on, has_off, has_on, put_off, put_on}
use Rattle.model.specs.Room.{fits_off, fits_on, fits, off_room, on_room}
use Rattle.model.proofs.Room.{Fits, fits_facts}

pub fits_put_on : (s : Protocol) (c : OnChannel) → fits s ≡ true → (has_on c.address c.index s || on_room s) ≡ true → fits (put_on c s) ≡ fits_on c
unfolding fits
fits_put_on s c h p =
    let w : Fits s = fits_facts s h in
    rw (le-leb (length s.offs) 4 w.offs, put_room (is_on c.address c.index) c s.ons 8 7 refl (le-leb (length s.ons) 8 w.ons) p, w.each_off, all_b_put fits_on (is_on c.address c.index) c s.ons w.each_on)

pub fits_put_off : (s : Protocol) (c : OffChannel) → fits s ≡ true → (has_off c.address s || off_room s) ≡ true → fits (put_off c s) ≡ fits_off c
unfolding fits
fits_put_off s c h p =
    let w : Fits s = fits_facts s h in
    rw (put_room (is_off c.address) c s.offs 4 3 refl (le-leb (length s.offs) 4 w.offs) p, le-leb (length s.ons) 8 w.ons, all_b_put fits_off (is_off c.address) c s.offs w.each_off, w.each_on, and-true)
