use Rattle.std.proofs.Common.{◌≡◌, ◌∙◌}
use Rattle.isp_format.specs.Control.{file_name}
use Rattle.isp_format.specs.Numbers.{bytes_of}
use Rattle.isp_format.proofs.ControlBytes.{control_made}
use Rattle.isp_format.proofs.control.control_bytes.Goals as goal

pub returns : goal.returns
unfolding file_name
returns c =
    let name : c.copy_from_slice.new.self ≡ file_name = c.copy_from_slice.ensures.after in
    let many : c.copy_from_slice-2.new.self ≡ bytes_of 4 c.args.pages = c.copy_from_slice-2.ensures.after ∙ c.to_be_bytes.ensures in
    let wide : c.copy_from_slice-3.new.self ≡ bytes_of 4 c.args.fanout = c.copy_from_slice-3.ensures.after ∙ c.to_be_bytes-2.ensures in
    control_made c.copy_from_slice.new.self c.copy_from_slice-2.new.self c.copy_from_slice-3.new.self c.args.pages c.args.fanout name many wide
