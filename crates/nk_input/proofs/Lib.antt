pub mod Cuts
pub mod Declared
pub mod OneText
pub mod SoFar
pub mod TakenTexts
