-- Which page rule a fault names: one of the first three, which an image is tested by as a file is opened, or a later one.
use Rattle.std.specs.Prelude.{◌<◌, ⊤}
use Rattle.isp_format.specs.Rules.{log_rule}
use Rattle.isp_page.specs.declared.fault.Fault.{Fault}
use Rattle.isp_page.specs.declared.fault.Fault.TheVariants.{Memory, Store}
use Rattle.isp_page.specs.declared.fault.StoreFault.{StoreFault}
use Rattle.isp_page.specs.declared.fault.StoreFault.TheVariants.{Damaged, Disk, Print}

-- a damaged page that is named breaks a rule behind those
abbrev pub NamesLater : StoreFault → Type 0
NamesLater Disk = ⊤
NamesLater Print = ⊤
NamesLater (Damaged page rule) = log_rule < rule

-- the same of one that may lack memory
abbrev pub NamesLaterOrLacks : Fault → Type 0
NamesLaterOrLacks (Store fault) = NamesLater fault
NamesLaterOrLacks Memory = ⊤
