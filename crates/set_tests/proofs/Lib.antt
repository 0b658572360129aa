mod Touches
