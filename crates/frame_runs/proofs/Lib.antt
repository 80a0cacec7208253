mod FoundLaws
mod RefusalLaws
mod FramedLaws
mod TellLaws
mod WalkLaws
mod ExactLaws
