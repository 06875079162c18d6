pub mod MemberLaws
pub mod InsideLaws
pub mod SlabLaws
pub mod CallLaws
pub mod PathLaws
pub mod PercolatingLaws
pub mod AlikeLaws
pub mod TestedLaws
