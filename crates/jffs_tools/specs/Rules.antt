-- The names of the rules on records.
use Rattle.std.specs.Prelude.{ℕ, List, codes}
use Rattle.jffs_node.specs.declared.read.Why.{Why}
use Rattle.jffs_node.specs.declared.read.Why.TheVariants.{Magic, Kind, Flags, Name, Form, Spare}
use Rattle.jffs_node.specs.declared.read.Why.TheVariants.{Size, Pad}

-- the name of the rule that a bad record breaks
abbrev pub rule_text : Why → List ℕ
rule_text Magic = codes "Magic"
rule_text Kind = codes "Kind"
rule_text Flags = codes "Flags"
rule_text Name = codes "Name"
rule_text Form = codes "Form"
rule_text Spare = codes "Spare"
rule_text Size = codes "Size"
rule_text Pad = codes "Pad"
