mod CutLaws
mod EntryLaws
mod PackLaws
mod PartLaws
