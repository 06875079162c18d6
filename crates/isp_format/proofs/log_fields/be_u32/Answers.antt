use Rattle.std.proofs.Common.{sym}
use Rattle.std.proofs.lemmas.Nat.{be_bytes_4}
use Rattle.isp_format.proofs.log_fields.be_u32.Goals as goal

pub returns : goal.returns
returns c = sym (be_bytes_4 c.args.bytes.now c.from_be_bytes.result c.told-bytes c.fits-bytes c.from_be_bytes.ensures)
