mod Loading
mod OneRound
