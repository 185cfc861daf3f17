mod Asked
mod OneAnswer
