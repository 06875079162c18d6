-- Content of pages that is put together, which may be too long for one page.
use Rattle.std.specs.Prelude.{ℕ}

-- how many bytes are kept of a content: those of a full page and of one row or entry more, and some to spare
abbrev pub most_content : ℕ
most_content = 5120
