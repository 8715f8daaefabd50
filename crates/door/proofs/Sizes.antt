-- The sizes that the host asks for are those of the structs as they lie in memory.
use mathlib.Core.Path.{◌≡◌, refl}
use prog.Memory.{size}
use Rattle.tab.proofs.Table.TheLaws as Table
use Rattle.packet.proofs.Record.TheLaws as Record
use Rattle.packet.proofs.Key.TheLaws as Key
use Rattle.packet.proofs.View.TheLaws as View
use Rattle.door.proofs.Arrival.TheLaws as Arrival
use Rattle.packet.proofs.Prepared.TheLaws as Prepared
use Rattle.door.proofs.Handles.TheLaws as Handles
use Rattle.door.proofs.Names.TheLaws as Names
use Rattle.door.specs.Numbers as Spec

pub table-size : Spec.size_of 0 ≡ size Table.mir
table-size = refl

pub record_size : Spec.size_of 1 ≡ size Record.mir
record_size = refl

pub key_size : Spec.size_of 2 ≡ size Key.mir
key_size = refl

pub view_size : Spec.size_of 3 ≡ size View.mir
view_size = refl

pub arrival_size : Spec.size_of 4 ≡ size Arrival.mir
arrival_size = refl

pub prepared-size : Spec.size_of 5 ≡ size Prepared.mir
prepared-size = refl

pub handles-size : Spec.size_of 6 ≡ size Handles.mir
handles-size = refl

pub names-size : Spec.size_of 7 ≡ size Names.mir
names-size = refl
