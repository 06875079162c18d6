-- The language whose statements the sessions of a script give.
use Rattle.isp_serial.specs.Transactions.{Language}
use Rattle.isp_plan.specs.Meaning.{whole}

abbrev pub sql : Language
sql = whole
