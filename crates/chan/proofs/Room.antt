-- What a rule would leave is not within the limits where one of its lists is too long.
use Rattle.std.proofs.Common.{◌≡◌, ◌<◌, Bool, true, false, ◌&&◌, length, refl, leb}
use borrow.Author.Tests.{lt-leb}
use Rattle.list.specs.Pad.{all_b}
use Rattle.list.specs.Find.{joined}
use Rattle.model.specs.State as model
use Rattle.model.specs.Room.{fits_group, fits_data}

module _ (d : model.OffData) where
  pub many_out : 32 < length d.out → fits_data d ≡ false
  unfolding fits_data
  many_out h = rw (lt-leb (length d.out) 32 h) refl

  pub many_acks : 64 < length d.acks → fits_data d ≡ false
  unfolding fits_data
  many_acks h = rw (lt-leb (length d.acks) 64 h) (over (leb (length d.out) 32))
    where
      over : (a : Bool) → (a && false && leb (length d.groups) 4 && all_b fits_group d.groups && leb (length d.bundles) 16 && leb (length (joined d.bundles)) 64) ≡ false
      over true = refl
      over false = refl

  pub many_groups : 4 < length d.groups → fits_data d ≡ false
  unfolding fits_data
  many_groups h = rw (lt-leb (length d.groups) 4 h) (over (leb (length d.out) 32 && leb (length d.acks) 64))
    where
      over : (a : Bool) → (a && false && all_b fits_group d.groups && leb (length d.bundles) 16 && leb (length (joined d.bundles)) 64) ≡ false
      over true = refl
      over false = refl

  pub wide_group : all_b fits_group d.groups ≡ false → fits_data d ≡ false
  unfolding fits_data
  wide_group h = rw h (over (leb (length d.out) 32 && leb (length d.acks) 64 && leb (length d.groups) 4))
    where
      over : (a : Bool) → (a && false && leb (length d.bundles) 16 && leb (length (joined d.bundles)) 64) ≡ false
      over true = refl
      over false = refl

  pub many_bundles : 16 < length d.bundles → fits_data d ≡ false
  unfolding fits_data
  many_bundles h = rw (lt-leb (length d.bundles) 16 h) (over (leb (length d.out) 32 && leb (length d.acks) 64 && leb (length d.groups) 4 && all_b fits_group d.groups))
    where
      over : (a : Bool) → (a && false && leb (length (joined d.bundles)) 64) ≡ false
      over true = refl
      over false = refl

  pub many_handles : 64 < length (joined d.bundles) → fits_data d ≡ false
  unfolding fits_data
  many_handles h = rw (lt-leb (length (joined d.bundles)) 64 h) (over (leb (length d.out) 32 && leb (length d.acks) 64 && leb (length d.groups) 4 && all_b fits_group d.groups && leb (length d.bundles) 16))
    where
      over : (a : Bool) → (a && false) ≡ false
      over true = refl
      over false = refl
