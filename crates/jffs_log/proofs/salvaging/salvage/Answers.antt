-- What was saved of a volume that a scan takes is what the scan finds.
use Rattle.std.proofs.Common.{arith, rules, ◌≡◌, Result, Ok, Err, IfOk}
use Rattle.jffs_node.specs.declared.read.NoMemory.{NoMemory}
use Rattle.jffs_log.specs.declared.salvaging.Salvaged.{Salvaged}
use Rattle.jffs_log.specs.Salvage.{IsSalvaged, IsWhole}
use Rattle.jffs_log.specs.Scan.{Scanned, scan}
use Rattle.jffs_log.specs.Volume.{split}
use Rattle.jffs_log.proofs.SavedWhole.{saved_whole}
use Rattle.jffs_log.proofs.salvaging.salvage.Goals as goal

if_saved : (P Q : Salvaged → Type 0) (r : Result Salvaged NoMemory) → ((made : Salvaged) → P made → Q made) → IfOk r P → IfOk r Q
if_saved P Q (Ok made) f h = f made h
if_saved P Q (Err e) f h = h

pub returns-clause-saved : goal.returns-clause-saved
returns-clause-saved c = search rules

pub returns-clause-whole : goal.returns-clause-whole
returns-clause-whole c =
    let image = c.args.image.now in
    if_saved (IsSalvaged c.args.sectors c.args.sector_size image)
    (λ made. (scanned : Scanned) → scan c.args.sector_size (split c.args.sectors c.args.sector_size image) ≡ Ok scanned → IsWhole scanned made)
    c.take_allowed.result
    (λ made saved scanned is. saved_whole c.args.sectors c.args.sector_size image made scanned (λ i. omega (arith, c.type_inv.image i)) saved is)
    (returns-clause-saved c)
