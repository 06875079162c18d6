-- A header in numbers alone.
use Rattle.isp_format.specs.Header.{Header}
use Rattle.isp_format.specs.declared.header.Head.{Head}

abbrev pub header_in : Head → Header
header_in h = record { kind = h.kind; level = h.level; count = h.count; owner = h.owner; next = h.next.0; prev = h.prev.0; ssn = h.ssn; own = h.own.0; used = h.used }
