mod FindLaws
mod ShowLaws
mod StackLaws
mod TurnLaws
