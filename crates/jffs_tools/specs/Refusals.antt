-- The refusals of a scan.
use Rattle.std.specs.Prelude.{ℕ, List, ◌++◌, codes, decimal}
use Rattle.jffs_log.specs.declared.scanning.ScanWhy.{ScanWhy}
use Rattle.jffs_log.specs.declared.scanning.ScanWhy.TheVariants.{Geometry, Device, BadRecord}
use Rattle.jffs_log.specs.declared.scanning.ScanWhy.TheVariants.{NoErased, Scattered, BadOrder}
use Rattle.jffs_log.specs.declared.scanning.ScanWhy.TheVariants.{BadTree, Memory}
use Rattle.jffs_tools.specs.Rules.{rule_text}

-- why a scan refuses: the reason's name, and of a bad record its sector, its offset there and the
-- rule
abbrev pub why_text : ScanWhy → List ℕ
why_text Geometry = codes "Geometry"
why_text Device = codes "Device"
why_text (BadRecord sector offset rule) = codes "BadRecord "
    ++ (decimal sector ++ (codes " " ++ (decimal offset ++ (codes " " ++ rule_text rule))))
why_text NoErased = codes "NoErased"
why_text Scattered = codes "Scattered"
why_text BadOrder = codes "BadOrder"
why_text BadTree = codes "BadTree"
why_text Memory = codes "Memory"
