pub mod LawsOfTokens
pub mod OneTokenComplete
pub mod OneTokenSound
pub mod ScanLaws
pub mod TokenLaws
pub mod TokensAgain
