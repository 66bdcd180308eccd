pub mod OneName
pub mod OneExpression
pub mod OneBlock
pub mod NotBoth
pub mod OneBody
pub mod OneClass
pub mod OneProgram
